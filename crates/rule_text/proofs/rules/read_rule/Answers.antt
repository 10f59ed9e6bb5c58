-- `rule_text::rules::read_rule` meets its contract.
use mathlib.Core.Path.{refl}
use Rattle.fault.proofs.Laws.{fault-here}
use Rattle.rule_text.proofs.RuleLaws.{rule-read, rule-absent}
use borrow.Author.Tests.{eq-eqb, ne_eqb}
-- `rule_text::rules::read_rule` meets its contract.
use Rattle.rule_text.proofs.rules.read_rule.Goals as goal

pub returns-then-byte-ne123 : goal.returns-then-byte-ne123
returns-then-byte-ne123 c = rw (c.fault_at.ensures, fault-here 20 _ refl) (rule-absent c.args.text.now c.args.at (rw (← c.byte.ensures.is) (ne_eqb _ _ c.if-byte-ne123.true)) c.stand_in.ensures)

pub returns : goal.returns
returns c = rule-read c.args.text.now c.args.at (rw (← c.byte.ensures.is) (eq-eqb _ _ c.if-byte-ne123.false)) c.rule_in.ensures
