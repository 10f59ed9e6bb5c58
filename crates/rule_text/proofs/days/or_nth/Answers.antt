-- `rule_text::days::or_nth` meets its contract.
use Rattle.rule_text.proofs.DayLaws.{is-some}
use Rattle.rule.specs.Inner.Read.{nth_from}
use Rattle.signed.proofs.Parts.{passed}
use Rattle.signed.specs.Parts.{pos_part, neg_part}
use borrow.Author.Tests.{lt-ltb, le-ltb}
use Rattle.rule_text.proofs.days.or_nth.Goals as goal

pub returns-then-positive_part-gt0 : goal.returns-then-positive_part-gt0
unfolding nth_from
returns-then-positive_part-gt0 c = rw (c.if-any.false, ← (passed pos_part c.ranges.nth c.positive_part.ensures), lt-ltb _ _ c.if-positive_part-gt0.true)

pub returns-else-positive_part-gt0 : goal.returns-else-positive_part-gt0
unfolding nth_from
returns-else-positive_part-gt0 c = rw (c.if-any.false, ← (passed pos_part c.ranges.nth c.positive_part.ensures), le-ltb _ _ c.if-positive_part-gt0.false, ← (passed neg_part c.ranges.nth c.negative_part.ensures)) (is-some _ _)
