-- A date-time of the years 1601 to 9998, asked of an accepted text.
use Rattle.std.specs.Prelude.{ℕ, ◌*◌, ◌<◌, ◌≤◌, List}
use Rattle.rule.specs.Gives.{end_day}
use Rattle.event_text.specs.declared.Head.{Head}
use Rattle.event_text.specs.Inner.Taken.{Taken}

pub record Dated (s t : List ℕ) (h : Head) (x : ℕ) : Type 0 where
  pub taken : Taken s t h
  pub low : 366 * 86400 ≤ x
  pub high : x < 86400 * end_day
