-- The days that a rule has in each kind of month, as lists in one slice.
use Rattle.std.specs.Prelude.{ℕ, suc, ◌+◌, ◌<◌, ◌≤◌, Bool, List, ◌≡◌, length, get_or}
use Rattle.months.specs.Inner.Kinds.{Kind, picks_in}
use Rattle.months.specs.Inner.Layout.{kinds_size, kind_size, last_at}
use Rattle.months.specs.Inner.Rows.{row_of, Kept}
use Rattle.window.specs.Inner.Lists.{list_in}
use Rattle.listing.specs.Inner.Lists.{hit_on}

-- The days, from 0, of a month of that kind that the rule has.
unfoldable pub kind_days : Bool → List Bool → ℕ → ℕ → List ℕ
kind_days placed fl weekday days = list_in (picks_in placed fl weekday days) 0 days

-- They stand at a place, and 31 places on one more than their number.
pub record Held (xs lists : List ℕ) (at : ℕ) : Type 0 where
  pub number : get_or lists (at + last_at) 0 ≡ suc (length xs)
  pub each : (k : ℕ) → k < length xs → get_or lists (at + k) 0 ≡ get_or xs k 0

-- 32 places for each kind; where the last is 0, its days are not listed yet.
pub record KeptLists (placed : Bool) (fl : List Bool) (lists : List ℕ) : Type 0 where
  pub size : length lists ≡ kinds_size
  pub list : (weekday days : ℕ) → Kind weekday days → 0 < get_or lists (row_of weekday days + last_at) 0
      → Held (kind_days placed fl weekday days) lists (row_of weekday days)

-- The list of a kind begins at a place.
pub record ListAt (placed : Bool) (fl : List Bool) (weekday days : ℕ) (rows : List Bool) (lists : List ℕ) (at : ℕ) : Type 0 where
  pub rows_kept : Kept placed fl rows
  pub kept : KeptLists placed fl lists
  pub within : at + kind_size ≤ kinds_size
  pub held : Held (kind_days placed fl weekday days) lists at

-- The days of a row were listed at a place, and nothing else was written but to its 32 places.
pub record Wrote (row : List Bool) (before : List ℕ) (at : ℕ) (after : List ℕ) : Type 0 where
  pub size : length after ≡ length before
  pub held : Held (list_in (hit_on row 0) 0 (length row)) after at
  pub low : (j : ℕ) → j < at → get_or after j 0 ≡ get_or before j 0
  pub high : (j : ℕ) → at + kind_size ≤ j → get_or after j 0 ≡ get_or before j 0
