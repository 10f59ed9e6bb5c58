-- `zone::hint::ahead` meets its contract, by the test.
use Rattle.std.proofs.Common.{eq-eqb}
use Rattle.zone.specs.Inner.Hint.{ahead_at}
use Rattle.zone.proofs.Machine.{Ranged, ahead-is}
use Rattle.zone.proofs.hint.ahead.Goals as goal

pub returns-then-i-instants : goal.returns-then-i-instants
unfolding ahead_at
returns-then-i-instants c = rw (eq-eqb _ _ c.if-i-instants.true)

pub returns-else-i-instants : goal.returns-else-i-instants
returns-else-i-instants c =
    let here : Ranged c.args.initial c.args.instants.now c.args.offsets.now c.args.local = record { initial_fits = c.ranges.initial; local_fits = c.ranges.local; range = c.requires.in_range } in
    ahead-is here c.args.i c.if-i-instants.false _ c.at.type_inv c.at.ensures
