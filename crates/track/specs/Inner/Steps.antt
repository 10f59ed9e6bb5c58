-- A day with what a rule with set positions asks of its period: how many of its days before this one stay, and how many of all.
use Rattle.std.specs.Prelude.{if◌then◌else◌, ℕ, ◌-◌, ◌<◌, ◌≤◌, Bool, false, List, ◌≡◌, ltb}
use Rattle.rule.specs.declared.Day.{Day}
use Rattle.rule.specs.Day.{day_at}
use Rattle.rule.specs.Lists.{count_in}
use Rattle.rule.specs.Period.{since_first, days_of}
use Rattle.rule.specs.Gives.{end_day}
use Rattle.matcher.specs.declared.Terms.{Terms}
use Rattle.matcher.specs.Inner.Layout.{row_size}
use Rattle.matcher.specs.Inner.Walk.{stays_on_by}
use Rattle.track.specs.declared.Cursor.{Cursor}

-- Counted only where it is asked: of a rule with set positions, on a day of the profile.
unfoldable pub is_counted : Terms → ℕ → Bool
is_counted t n = if t.placed then ltb n end_day else false

-- The days that stay of the first k of the day's period.
unfoldable pub staying : Terms → List Bool → Day → ℕ → ℕ
staying t row x k = count_in (stays_on_by row t.inyear) (x.number - since_first t.frequency t.first x) k

unfoldable pub seen_on : Terms → List Bool → Day → ℕ
seen_on t row x = if is_counted t x.number then staying t row x (since_first t.frequency t.first x) else 0

unfoldable pub total_on : Terms → List Bool → Day → ℕ
total_on t row x = if is_counted t x.number then staying t row x (days_of t.frequency x) else 0

unfoldable pub cursor_on : Terms → List Bool → Day → Cursor
cursor_on t row x = record { day = x; seen = seen_on t row x; total = total_on t row x }

unfoldable pub cursor_at : Terms → List Bool → ℕ → Cursor
cursor_at t row n = cursor_on t row (day_at n)

-- A day of the profile, or the one after it.
pub record Reached (t : Terms) (row n : ℕ) : Type 0 where
  pub row_length : row ≡ row_size
  pub week : t.first < 7
  pub low : 366 ≤ n
  pub high : n ≤ end_day

pub record Holding (t : Terms) (flags : List Bool) (row : ℕ) (c : Cursor) : Type 0 where
  pub row_length : row ≡ row_size
  pub week : t.first < 7
  pub low : 366 ≤ c.day.number
  pub high : c.day.number < end_day
  pub is : c ≡ cursor_at t flags c.day.number
