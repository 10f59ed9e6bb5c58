-- `rule_text::members::unsupported_in` meets its contract.
use Rattle.event.specs.Reading.{unsupported}
use Rattle.fault.specs.Fault.{first, lower}
use Rattle.json_tree.proofs.Trees.{place-tree}
use Rattle.property.proofs.RowLaws.{here, missing}
use Rattle.rule_text.proofs.members.unsupported_in.Goals as goal

pub returns-in-Some : goal.returns-in-Some
unfolding unsupported
returns-in-Some c = λ l. rw (here _ _ _ _ c.place.ensures _ c.in-Some.is l, place-tree l, ← c.fault_at.ensures) c.lower.ensures

pub returns-in-None : goal.returns-in-None
unfolding unsupported first lower
returns-in-None c = λ l. rw (missing _ _ _ _ c.place.ensures c.in-None.is l)
