-- `override_text::names::names_fault` meets its contract: what was found and what is left make the whole.
use Rattle.override_text.specs.Inner.Names.{of_name}
use Rattle.override_text.proofs.WalkLaws.{Left}
use Rattle.override_text.proofs.names.names_fault.Given as goal

abbrev pub invariant-loop : goal.invariant-loop
invariant-loop l = Left (of_name l.text) l.text l.at l.found l.next l.counter
