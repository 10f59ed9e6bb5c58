-- `listing::whole::is_monthly` meets its contract.
use Rattle.std.proofs.Common.{◌≡◌, false, refl}
use Rattle.rule.specs.declared.Frequency.{Frequency}
use Rattle.rule.specs.declared.Frequency.TheVariants.{Daily, Weekly, Monthly, Yearly}
use Rattle.listing.specs.Inner.Parts.{is_monthly}
use Rattle.listing.proofs.whole.is_monthly.Goals as goal

other : (f : Frequency) → (f ≡ Monthly → ⊥) → false ≡ is_monthly f
unfolding is_monthly
other Daily h = refl
other Weekly h = refl
other Monthly h = absurd (h refl)
other Yearly h = refl

pub returns-in-Monthly : goal.returns-in-Monthly
unfolding is_monthly
returns-in-Monthly c = rw c.in-Monthly.is

pub returns-in_default : goal.returns-in_default
returns-in_default c = other _ c.in_default.not-Monthly
