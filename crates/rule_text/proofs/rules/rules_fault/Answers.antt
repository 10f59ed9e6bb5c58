-- `rule_text::rules::rules_fault` meets its contract.
use Rattle.rule_text.proofs.PlaceLaws.{rules-not, rules-fault-is}
use borrow.Author.Tests.{eq-eqb, ne_eqb}
use Rattle.rule_text.proofs.rules.rules_fault.Goals as goal

pub returns-then-byte-ne91 : goal.returns-then-byte-ne91
returns-then-byte-ne91 c = λ l. rw (rules-not _ c.args.text.now c.args.at (rw (← c.byte.ensures.is) (ne_eqb _ _ c.if-byte-ne91.true))) c.fault_at.ensures

pub returns : goal.returns
returns c = λ l. rules-fault-is _ c.args.text.now c.args.at (rw (← c.byte.ensures.is) (eq-eqb _ _ c.if-byte-ne91.false)) (c.rule_entries-all.ensures.count l) (c.rule_entries-all.ensures.fault l) c.limit.ensures
