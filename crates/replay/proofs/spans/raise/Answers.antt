-- `replay::spans::raise` meets its contract: the place of the first week holds the farthest end, which fits.
use Prim.Native.Nat.{◌<◌, ◌^◌}
use mathlib.Core.Path.{◌≡◌, sym}
use native.Mathlib.Omega.{arith}
use lib.IntN.{pos}
use lib.ListN.{get_or}
use lib.Seq.{set_out}
use mir.Syntax.{w64}
use mir.Val.{SFits}
use mir.Facts.{to_z_pos}
use borrow.Author.Rules.{rules}
use Rattle.signed.specs.Parts.{pos_part}
use Rattle.signed.proofs.Parts.{passed, fit-pos}
use Rattle.weeks.specs.Inner.Marks.{raise}
use Rattle.weeks.proofs.SweepLaws.{larger-max}
use Rattle.replay.proofs.spans.raise.Goals as goal

pub overflow_cast-p : goal.overflow_cast-p
overflow_cast-p c =
    let z = get_or c.args.p.now c.args.first (pos 0) in
    let f : SFits w64 z = search rules in
    let held : c.positive_part-held.result ≡ pos_part z = passed pos_part f c.positive_part-held.ensures in
    let small : c.larger.result < 2 ^ 63 = omega (arith, c.larger.ensures, larger-max c.positive_part-held.result c.args.after, held, fit-pos z f, c.requires) in
    record { sfits = small }

pub returns-then-at-p : goal.returns-then-at-p
unfolding raise
returns-then-at-p c =
    let z = get_or c.args.p.now c.args.first (pos 0) in
    let f : SFits w64 z = search rules in
    let held : c.positive_part-held.result ≡ pos_part z = passed pos_part f c.positive_part-held.ensures in
    let small : c.larger.result < 2 ^ 63 = omega (arith, c.larger.ensures, larger-max c.positive_part-held.result c.args.after, held, fit-pos z f, c.requires) in
    rw (to_z_pos w64 {n = c.larger.result} small, c.larger.ensures, held)

pub returns-else-at-p : goal.returns-else-at-p
unfolding raise
returns-else-at-p c = sym (set_out _ _ _ c.if-at-p.false)
