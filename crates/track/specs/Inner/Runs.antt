-- The days of a settled rule, and runs of days: hit i of a run that begins on day d stands for day d + i.
use Rattle.std.specs.Prelude.{if◌then◌else◌, ℕ, zero, suc, ◌+◌, ◌<◌, ◌≤◌, Bool, false, List, [], ◌∷◌, ◌≡◌, ltb}
use Rattle.rule.specs.Gives.{end_day}
use Rattle.matcher.specs.declared.Terms.{Terms}
use Rattle.matcher.specs.Inner.Layout.{row_size}
use Rattle.matcher.specs.Inner.Walk.{picks_on_by}
use Rattle.track.specs.declared.Track.{Track}

-- The rule of an event that starts on the day `begin` has the day d: not before that day, before its last, and picked.
unfoldable pub has_day : Track → List Bool → ℕ → ℕ → Bool
has_day t row begin d = if ltb d begin then false else if ltb d t.last then picks_on_by t.terms row d else false

-- A run of hits from day d on: each day that passes gets the value.
unfoldable pub marked : (ℕ → Bool) → Bool → ℕ → List Bool → List Bool
marked p value d [] = []
marked p value d (h ∷ l) = (if p d then value else h) ∷ marked p value (suc d) l

-- A test's answers for the n days from d on.
unfoldable pub run : (ℕ → Bool) → ℕ → ℕ → List Bool
run p d zero = []
run p d (suc n) = p d ∷ run p (suc d) n

-- A run of n days from `first` on lies in the profile, and the rule has a row of flags and a first day of the week.
pub record Run (t : Terms) (row first n : ℕ) : Type 0 where
  pub row_length : row ≡ row_size
  pub week : t.first < 7
  pub low : 366 ≤ first
  pub high : first + n ≤ end_day

pub record Marking (t : Track) (row first n : ℕ) : Type 0 where
  pub row_length : row ≡ row_size
  pub week : t.terms.first < 7
  pub low : 366 ≤ first
  pub high : first + n ≤ end_day

-- The later of two days, and the earlier.
pub record LaterOf (a b r : ℕ) : Type 0 where
  pub first : a ≤ r
  pub second : b ≤ r
  pub before : (d : ℕ) → a ≤ d → d < r → d < b

pub record EarlierOf (a b r : ℕ) : Type 0 where
  pub is : r ≡ (if ltb a b then a else b)
  pub first : r ≤ a
  pub second : r ≤ b
  pub behind : (d : ℕ) → r ≤ d → d < a → b ≤ d
