-- `expand_in` meets its contract: 1 to 9, 10 to 12, then the trailer alone or the table.
use Rattle.opening.proofs.TextLaws.{refused-fault}
use Rattle.expansion.proofs.CallLaws.{text-refused}
use Rattle.expansion.proofs.AcceptedLaws.{refused-gives, secret-gives, visible-gives, visible-needs}
use Rattle.expansion.proofs.expand.expand_in.Goals as goal

pub returns-then-answer-ne0 : goal.returns-then-answer-ne0
returns-then-answer-ne0 c = let fine = c.in-Ok.ensures in
    refused-gives _ _ _ fine _ _ _ _ _ _ c.ranges.initial c.ranges.from c.ranges.to _ c.call_fault-answer.ensures _ c.if-answer-ne0.true

pub returns-then-is_secret : goal.returns-then-is_secret
returns-then-is_secret c = let fine = c.in-Ok.ensures in
    secret-gives _ _ _ fine _ _ _ _ _ _ c.ranges.initial c.ranges.from c.ranges.to _ c.call_fault-answer.ensures _ c.if-answer-ne0.false _ c.is_secret.ensures _ _ _ c.if-is_secret.true c.put_trailer_alone.ensures

pub put_visible-requires : goal.put_visible-requires
put_visible-requires c = let fine = c.in-Ok.ensures in
    visible-needs _ _ _ fine _ _ _ _ _ _ c.ranges.initial c.ranges.from c.ranges.to _ c.call_fault-answer.ensures c.if-answer-ne0.false _ c.since_1600.ensures _ c.since_1600-in-Ok.ensures

pub returns-in-Err : goal.returns-in-Err
returns-in-Err c = text-refused _ _ _ _ _ _ (refused-fault _ _ _ c.in-Err.ensures.0, c.in-Err.ensures.1)

pub returns-else-is_secret : goal.returns-else-is_secret
returns-else-is_secret c = let fine = c.in-Ok.ensures in
    visible-gives _ _ _ fine _ _ _ _ _ _ c.ranges.initial c.ranges.from c.ranges.to _ c.call_fault-answer.ensures _ c.if-answer-ne0.false _ c.is_secret.ensures _ _ _ c.if-is_secret.false _ c.since_1600.ensures _ c.since_1600-in-Ok.ensures
    c.put_visible.ensures
