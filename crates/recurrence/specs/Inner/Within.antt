-- The occurrences of an event in a window, by seconds from 1600.
use Rattle.std.specs.Prelude.{ℕ, ◌<◌, ◌≤◌}
use Rattle.recurrence.specs.Event.{Event}
use Rattle.recurrence.specs.Occurs.{Occurs}

-- It lies in the window, whose first second is included and whose second one is not, and is an occurrence.
pub record OccursWithin (e : Event) (from to x : ℕ) : Type 0 where
  pub not_before : from ≤ x
  pub before : x < to
  pub occurs : Occurs e x
