-- `replay::sweeping::sweep` meets its contract: the places before here are done, and `reach` is how far the spans reach.
use Rattle.std.specs.Prelude.{if◌then◌else◌}
use mathlib.Core.Path.{◌≡◌, sym, ap, ◌∙◌}
use native.Mathlib.Omega.{arith}
use lib.Dec.{ltb}
use lib.IntN.{pos, negsuc}
use lib.ListN.{get_or}
use mir.Syntax.{w64}
use mir.Val.{SFits, to_z}
use borrow.Author.Rules.{rules}
use borrow.Author.Tests.{le-ltb, lt-ltb}
use Rattle.signed.specs.Parts.{pos_part}
use Rattle.signed.proofs.Parts.{passed}
use Rattle.weeks.specs.Inner.Marks.{larger}
use Rattle.replay.proofs.SpanLaws.{sweep-turn, sweep-done}
use Rattle.replay.proofs.sweeping.sweep.Goals as goal
use Rattle.replay.proofs.sweeping.sweep.Goals.{then-i-reach, else-i-reach}

pub loop-i-preserved : goal.loop-i-preserved
loop-i-preserved c =
    let l = c.loop-i in
    let z = get_or l.p l.i (pos 0) in
    let f : SFits w64 z = search rules in
    let part : c.positive_part.result ≡ pos_part z = passed pos_part f c.positive_part.ensures in
    let reach : c.larger-reach.result ≡ larger l.reach (pos_part z) = c.larger-reach.ensures ∙ ap (larger l.reach) part in
    let place : to_z w64 c.if-i-reach.z-bits ≡ (if ltb l.i c.larger-reach.result then negsuc 0 else negsuc 1) = elim c.if-i-reach.branch [
      | then-i-reach w ↦ rw (lt-ltb _ _ w.if-i-reach.true) w.z-is
      | else-i-reach w ↦ rw (le-ltb _ _ w.if-i-reach.false) w.z-is
    ] in
    rw (place, reach) (sweep-turn l.p l.reach l.i (omega (arith, l.auto.p, c.loop-i-test.true)) ∙ l.invariant)

pub returns : goal.returns
returns c = let l = c.loop-i in sym (sweep-done l.p l.reach l.i (omega (arith, l.auto.p, c.loop-i-test.false))) ∙ l.invariant
