-- Rows of answers, one for each kind of month, kept in one list.
use Rattle.std.specs.Prelude.{ℕ, ◌+◌, ◌-◌, ◌*◌, ◌<◌, ◌≤◌, Bool, true, false, List, ◌≡◌, length, get_or}
use Rattle.matcher.specs.Inner.Layout.{row_size}
use Rattle.months.specs.Inner.Kinds.{Kind, picks_in}
use Rattle.months.specs.Inner.Layout.{kinds_size, last_at, ready_at, answers_size}
use Rattle.months.specs.Inner.Week.{Week}

unfoldable pub answer_at : List Bool → ℕ → ℕ → Bool
answer_at rows at k = get_or rows (at + k) false

-- The n answers of a test were written from a place on, and nothing else.
pub record Wrote (p : ℕ → Bool) (before : List Bool) (at n : ℕ) (rows : List Bool) : Type 0 where
  pub size : length rows ≡ length before
  pub here : (k : ℕ) → k < n → get_or rows (at + k) false ≡ p k
  pub low : (j : ℕ) → j < at → get_or rows j false ≡ get_or before j false
  pub high : (j : ℕ) → at + n ≤ j → get_or rows j false ≡ get_or before j false

-- 32 places for each kind: its days, and in the last whether they are written.
abbrev pub row_of : ℕ → ℕ → ℕ
row_of weekday days = 224 * (days - 28) + 32 * weekday

-- The place `ready_at` says whether the week is written.
pub record Kept (placed : Bool) (fl rows : List Bool) : Type 0 where
  pub size : length rows ≡ answers_size
  pub ready : get_or rows ready_at false ≡ true → Week fl rows
  pub row : (weekday days : ℕ) → Kind weekday days → get_or rows (row_of weekday days + last_at) false ≡ true
      → (k : ℕ) → k < days → get_or rows (row_of weekday days + k) false ≡ picks_in placed fl weekday days k

-- The kind's row begins at a place. Which other kinds are written is left open: a row that is not written is written when it is asked for.
pub record KeptAt (placed : Bool) (fl : List Bool) (weekday days : ℕ) (rows : List Bool) (at : ℕ) : Type 0 where
  pub is : at ≡ row_of weekday days
  pub kept : Kept placed fl rows
  pub within : at + days ≤ kinds_size
  pub row : (k : ℕ) → k < days → get_or rows (at + k) false ≡ picks_in placed fl weekday days k

-- The row of a kind can be written.
pub record Writing (fl : List Bool) (weekday days : ℕ) (rows : List Bool) (at : ℕ) : Type 0 where
  pub flags : length fl ≡ row_size
  pub kind : Kind weekday days
  pub within : at + days ≤ kinds_size
  pub size : length rows ≡ answers_size
  pub week : Week fl rows
