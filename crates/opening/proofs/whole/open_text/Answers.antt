-- `open_text` meets its contract: 1 to 4, then 5 to 9, and what they leave is accepted.
use mathlib.Core.Path.{sym, ◌∙◌}
use Rattle.opening.proofs.TextLaws.{answer-first, event-next, event-none}
use Rattle.opening.proofs.whole.open_text.Goals as goal

pub returns-then-json-ne0 : goal.returns-then-json-ne0
returns-then-json-ne0 c = (answer-first _ _ c.judge-json.ensures.is c.if-json-ne0.true, c.if-json-ne0.true)

pub returns-then-fault-ne0 : goal.returns-then-fault-ne0
returns-then-fault-ne0 c = let j = c.judge-json.ensures in (
  event-next _ (sym j.is ∙ c.if-json-ne0.false) _ c.event_first-first.ensures _ _ c.number_of-fault.ensures c.place_of.ensures,
  c.if-fault-ne0.true,
)

pub returns : goal.returns
returns c = let j = c.judge-json.ensures in
    let none = event-none _ (sym j.is ∙ c.if-json-ne0.false) _ c.event_first-first.ensures _ c.number_of-fault.ensures c.if-fault-ne0.false in
    (none.0, record { ends = j.ends; head = c.head-event.ensures; accepted = none.1 })
