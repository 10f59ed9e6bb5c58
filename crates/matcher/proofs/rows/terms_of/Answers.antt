-- `matcher::rows::terms_of` meets its contract.
use Rattle.matcher.proofs.TermLaws.{terms-read}
use Rattle.matcher.proofs.rows.terms_of.Goals as goal

pub returns : goal.returns
returns c = terms-read _ _ c.requires.0 _ _ c.counts_in_year.ensures c.period_of.ensures
