-- `zone::hint::begun` meets its contract, by the test.
use Rattle.std.proofs.Common.{eq-eqb}
use Rattle.zone.specs.Inner.Hint.{begun_at}
use Rattle.zone.proofs.Machine.{Ranged, begun-is}
use Rattle.zone.proofs.hint.begun.Goals as goal

pub returns-then-i-eq0 : goal.returns-then-i-eq0
unfolding begun_at
returns-then-i-eq0 c = let e = eq-eqb c.args.i 0 c.if-i-eq0.true in rw e

pub returns-else-i-eq0 : goal.returns-else-i-eq0
returns-else-i-eq0 c =
    let here : Ranged c.args.initial c.args.instants.now c.args.offsets.now c.args.local = record { initial_fits = c.ranges.initial; local_fits = c.ranges.local; range = c.requires.in_range } in
    begun-is here c.args.i c.if-i-eq0.false _ c.at.type_inv c.at.ensures
