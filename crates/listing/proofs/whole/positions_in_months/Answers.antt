-- `listing::whole::positions_in_months` meets its contract.
use Rattle.std.proofs.Common.{◌≡◌, true, refl, sym, ap, ◌∙◌}
use Rattle.std.proofs.lemmas.Bool.{false≢true}
use borrow.Author.Tests.{not-false}
use Rattle.rule.specs.declared.Frequency.{Frequency}
use Rattle.rule.specs.declared.Frequency.TheVariants.{Daily, Weekly, Monthly, Yearly}
use Rattle.listing.specs.Inner.Parts.{is_monthly}
use Rattle.listing.proofs.whole.positions_in_months.Goals as goal

monthly-is : (f : Frequency) → is_monthly f ≡ true → f ≡ Monthly
unfolding is_monthly
monthly-is Daily e = absurd (false≢true e)
monthly-is Weekly e = absurd (false≢true e)
monthly-is Monthly e = refl
monthly-is Yearly e = absurd (false≢true e)

is-monthly-of : (f : Frequency) → f ≡ Monthly → is_monthly f ≡ true
unfolding is_monthly
is-monthly-of f e = ap is_monthly e

pub returns-else-not-terms : goal.returns-else-not-terms
returns-else-not-terms c = (
  λ e is. monthly-is _ (sym c.is_monthly.ensures ∙ e),
  λ all. c.is_monthly.ensures ∙ is-monthly-of _ (all (not-false _ c.if-not-terms.false)),
)
