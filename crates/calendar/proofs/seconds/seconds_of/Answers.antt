-- `calendar::seconds::seconds_of` meets its contract.
use mathlib.Core.Path.{sym, ◌∙◌}
use Rattle.signed.proofs.Parts.{back}
use Rattle.gregorian.proofs.SecondLaws.{counted}
use Rattle.calendar.proofs.seconds.seconds_of.Goals as goal

pub returns : goal.returns
returns c = back _ c.difference.type_inv ∙ c.difference.ensures ∙ sym (counted c.args.moment)
