-- What a window's ids are asked from.
use Rattle.std.specs.Prelude.{ℕ, ◌≤◌}
use Rattle.dates.specs.declared.Dates.{Dates}
use Rattle.dates.specs.Inner.Dates.{Whole}
use Rattle.window.specs.Inner.Handed.{Span}

-- The dates are whole, the window lies in the profile, and the slice for the ids has room for those of a month and one more.
pub record Asked (d : Dates) (rows ids gone from to out : ℕ) : Type 0 where
  pub whole : Whole d rows ids gone
  pub span : Span from to
  pub room : 32 ≤ out
