-- The weekdays that are set without `nthOfPeriod`, written out from Monday on for as many days as a month that begins on a Sunday needs.
use Rattle.std.specs.Prelude.{ℕ, ◌+◌, ◌%◌, ◌<◌, Bool, true, false, List, ◌≡◌, length, get_or}
use Rattle.matcher.specs.Inner.Layout.{weekdays_at, nths_at, nths_size}
use Rattle.months.specs.Inner.Layout.{kinds_size, week_size, plain_at}

unfoldable pub week_at : List Bool → ℕ → Bool
week_at fl k = get_or fl (weekdays_at + k % 7) false

-- No weekday is asked for by its place in the month or year.
pub record NoPlaces (fl : List Bool) : Type 0 where
  pub none : (j : ℕ) → j < nths_size → get_or fl (nths_at + j) false ≡ false

-- They stand after the rows of the kinds, and after them whether no weekday is asked for by its place.
pub record Week (fl rows : List Bool) : Type 0 where
  pub days : (k : ℕ) → k < week_size → get_or rows (kinds_size + k) false ≡ week_at fl k
  pub plain : get_or rows plain_at false ≡ true → NoPlaces fl

-- They are written, the rows of the kinds as they were.
pub record Prepared (fl before rows : List Bool) : Type 0 where
  pub size : length rows ≡ length before
  pub week : Week fl rows
  pub same : (j : ℕ) → j < kinds_size → get_or rows j false ≡ get_or before j false
