-- `track::last::count_day` meets its contract.
use Rattle.track.proofs.LastLaws.{end_none, end-all}
use native.Mathlib.Omega.{arith}
use Prim.Native.Nat.{◌+◌, ◌/◌, ◌-◌}
use mathlib.Core.Path.{◌≡◌, sym, ◌∙◌}
use Rattle.track.proofs.last.count_day.Goals as goal

pub returns-then-limit-first : goal.returns-then-limit-first
returns-then-limit-first c = let none : c.args.limit - c.args.start / 86400 ≡ 0 = omega (arith, c.if-limit-first.true) in
    sym (rw none (end_none _ _ _))

pub returns-then-limit-first-2 : goal.returns-then-limit-first-2
returns-then-limit-first-2 c = let a = c.args in
    let whole : a.limit ≡ a.start / 86400 + (a.limit - a.start / 86400) = omega (arith, c.if-limit-first.false) in
    whole ∙ sym (end-all _ _ _ _ c.if-limit-first-2.true)

pub walk_count-requires : goal.walk_count-requires
walk_count-requires c = (c.requires, c.if-limit-first.false)

pub returns : goal.returns
returns c = c.walk_count.ensures
