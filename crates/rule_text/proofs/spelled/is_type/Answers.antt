-- `rule_text::spelled::is_type` meets its contract.
use Rattle.rule_text.proofs.spelled.is_type.Goals as goal

pub returns-in-Rule : goal.returns-in-Rule
returns-in-Rule c = rw (
  c.in-Rule.is,
  ← c.is.ensures,
)

pub returns-in-Day : goal.returns-in-Day
returns-in-Day c = rw (
  c.in-Day.is,
  ← c.is-in-Day.ensures,
)
