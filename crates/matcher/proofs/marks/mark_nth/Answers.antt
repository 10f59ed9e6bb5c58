-- `matcher::marks::mark_nth` meets its contract: no place, or one.
use mathlib.Core.Option.{some}
use mathlib.Core.Path.{ap}
use mir.Syntax.{w64}
use mir.Val.{of_z}
use Rattle.signed.proofs.Parts.{passed}
use Rattle.matcher.specs.Inner.Marks.{mark_nth}
use Rattle.matcher.proofs.MarkLaws.{no-bits, nth-some, nth-none}
use Rattle.matcher.proofs.marks.mark_nth.Goals as goal

pub returns-then-z-eq0 : goal.returns-then-z-eq0
returns-then-z-eq0 c = nth-none _ _ _ _ (no-bits _ c.ranges.z c.if-z-eq0.true) (rw c.from.ensures at c.mark.ensures)

pub returns-else-z-eq0 : goal.returns-else-z-eq0
returns-else-z-eq0 c = nth-some _ _ _ _ (λ e. c.if-z-eq0.false (ap (of_z w64) e))
    (passed (λ z. mark_nth c.args.flags.now c.args.weekday (some z)) c.ranges.z c.mark_weekday.ensures)
