-- `rule_text::others::join` meets its contract.
use Rattle.rule_text.specs.Inner.Parts.{joined}
-- `rule_text::others::join` meets its contract.
use Rattle.rule_text.proofs.others.join.Goals as goal

pub returns : goal.returns
unfolding joined
returns c = rw (c.lower-5.ensures, c.lower-4.ensures, c.lower-lists.ensures, c.lower-3.ensures, c.lower-2.ensures, c.lower-last.ensures, c.lower.ensures)
