-- Days as a list in a lent slice.
use Rattle.std.specs.Prelude.{if◌then◌else◌, ℕ, ◌+◌, ◌-◌, ◌<◌, ◌≤◌, Bool, true, false, List, ◌++◌, map, ◌≡◌, eqb, length, take, get_or}
use Rattle.rule.specs.Gives.{end_day}
use Rattle.track.specs.declared.Track.{Track}
use Rattle.track.specs.Inner.Runs.{has_day}
use Rattle.window.specs.Inner.Lists.{list_in}

-- Hit k of some days from `first` on stands for day first + k.
unfoldable pub hit_on : List Bool → ℕ → ℕ → Bool
hit_on hits first d = get_or hits (d - first) false

-- After the first `at` entries of a list stand those of n days from `first` on that pass; `end` is the place after the last.
pub record Listed (p : ℕ → Bool) (first n : ℕ) (before : List ℕ) (at : ℕ) (after : List ℕ) (end : ℕ) : Type 0 where
  pub size : length after ≡ length before
  pub most : end ≤ at + n
  pub days : take end after ≡ take at before ++ list_in p first n

-- The same of hits, and no entry before or after them has changed.
pub record Collected (hits : List Bool) (first : ℕ) (before : List ℕ) (at : ℕ) (after : List ℕ) (end : ℕ) : Type 0 where
  pub listed : Listed (hit_on hits first) first (length hits) before at after end
  pub more : at ≤ end
  pub low : (j : ℕ) → j < at → get_or after j 0 ≡ get_or before j 0
  pub high : (j : ℕ) → at + length hits ≤ j → get_or after j 0 ≡ get_or before j 0

-- The day d is the start's, or the only rule of an event has it.
unfoldable pub start_or : Track → List Bool → ℕ → ℕ → Bool
start_or t row begin d = if eqb d begin then true else has_day t row begin d

-- Days of a month, from 0.
pub record Offsets (first : ℕ) (list : List ℕ) : Type 0 where
  pub begins : first ≤ end_day
  pub small : (k : ℕ) → k < length list → get_or list k 0 ≤ 31

pub record Copied (list : List ℕ) (first : ℕ) (before : List ℕ) (at : ℕ) (after : List ℕ) (end : ℕ) : Type 0 where
  pub size : length after ≡ length before
  pub place : end ≡ at + length list
  pub days : take end after ≡ take at before ++ map (λ k. first + k) list
