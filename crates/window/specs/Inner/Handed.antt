-- The ids of a stretch of time, handed over in a lent slice.
use Rattle.std.specs.Prelude.{ℕ, ◌-◌, ◌*◌, ◌/◌, ◌<◌, ◌≤◌, Bool, List, ◌≡◌, length, take}
use Rattle.rule.specs.Gives.{end_day}
use Rattle.window.specs.Inner.Lists.{list_in}
use Rattle.window.specs.Inner.Next.{Stretch}

-- 01: the window's seconds are of the years 1601 to 9998.
pub record Span (from to : ℕ) : Type 0 where
  pub low : 366 ≤ from / 86400
  pub order : from ≤ to
  pub high : to ≤ 86400 * end_day

-- The date-times that pass, from `from` on and before `next`, stand in order at the front of the slice. More may follow where `next` is
-- before `to`.
pub record Handed (p : ℕ → Bool) (from to : ℕ) (before after : List ℕ) (count next : ℕ) : Type 0 where
  pub size : length after ≡ length before
  pub few : count ≤ length before
  pub low : from ≤ next
  pub high : next ≤ to
  pub ahead : from < to → from < next
  pub ids : take count after ≡ list_in p from (next - from)

-- What the ids of a run are collected from: the stretch lies in its days, each override has its mark, and the slice has room for an id.
pub record Collects (first hits from to ids gone out : ℕ) : Type 0 where
  pub stretch : Stretch first hits from to
  pub overrides : ids ≡ gone
  pub room : 0 < out
