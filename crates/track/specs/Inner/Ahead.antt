-- A count on its way: how much of it is left, and from which day on.
use Rattle.std.specs.Prelude.{ℕ, ◌+◌, ◌-◌, ◌/◌, ◌<◌, ◌≤◌, Bool, List, ◌≡◌}
use Rattle.rule.specs.Day.{day_at}
use Rattle.rule.specs.Period.{period_of}
use Rattle.rule.specs.Gives.{end_day}
use Rattle.matcher.specs.declared.Terms.{Terms}
use Rattle.matcher.specs.Inner.Layout.{row_size}
use Rattle.matcher.specs.Inner.Walk.{picks_on_by}
use Rattle.track.specs.declared.Rest.{Rest}
use Rattle.track.specs.Inner.Last.{end_of}
use Rattle.track.specs.Inner.Skips.{Without}

-- From the day d on the walk ends where it ends from the start on.
pub record EndAt (p : ℕ → Bool) (first limit count d left more : ℕ) : Type 0 where
  pub low : first ≤ d
  pub ends : d + left ≡ limit
  pub same : end_of p left d more ≡ end_of p (limit - first) first count

pub record AheadAt (p : ℕ → Bool) (first limit count : ℕ) (a : Rest) : Type 0 where
  pub day : a.day ≡ day_at a.day.number
  pub walk : EndAt p first limit count a.day.number a.left a.more

-- From b on the walk ends where it ends from a on.
abbrev pub AheadOf : (ℕ → Bool) → Rest → Rest → Type 0
AheadOf p a b = AheadAt p a.day.number (a.day.number + a.left) a.more b

-- What is left of the count of an event that starts in the profile, on a day that is not before the start.
pub record Resting (t : Terms) (row start : ℕ) (a : Rest) : Type 0 where
  pub row_length : row ≡ row_size
  pub week : t.first < 7
  pub low : 366 ≤ start / 86400
  pub day : a.day ≡ day_at a.day.number
  pub after : start / 86400 ≤ a.day.number
  pub within : a.day.number + a.left ≤ end_day
  pub starts : start / 86400 < end_day
  pub begun : t.period ≤ period_of t.frequency t.first (day_at (start / 86400))

-- None of the n days from d on is picked, and where there are some, they lie after the first.
pub record OutAfter (t : Terms) (row : List Bool) (first d n : ℕ) : Type 0 where
  pub out : Without (picks_on_by t row) d n
  pub after : 0 < n → first < d
