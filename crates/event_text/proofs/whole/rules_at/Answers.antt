-- `event_text::whole::rules_at` meets its contract.
use borrow.Author.Rules.{rules}
use Rattle.fault.specs.Fault.{first}
use Rattle.event.specs.Reading.{present}
use Rattle.event_text.proofs.whole.rules_at.Goals as goal

pub returns-in_err-at : goal.returns-in_err-at
unfolding present first
returns-in_err-at c = rw c.in_err-at.was (search rules)

pub returns : goal.returns
unfolding present
returns c = rw c.in_ok-at.was (c.rules_fault.ensures 11)
