-- The marks of a record, without the event that they come from.
use Rattle.std.specs.Prelude.{if◌then◌else◌, ℕ, ◌+◌, Bool}

-- "marks (1: busy 1, all-day 2, floating 4)"
unfoldable pub marks_for : Bool → Bool → Bool → ℕ
marks_for busy all_day floating = (if busy then 1 else 0) + (if all_day then 2 else 0) + (if floating then 4 else 0)
