-- Marking a row of flags from a rule's by-lists, entry by entry.
use Rattle.std.specs.Prelude.{if◌then◌else◌, ℕ, zero, suc, ◌+◌, ◌*◌, Bool, true, List, [], ◌∷◌, ltb, ℤ, set}
use Rattle.std.proofs.Math.Option.{Option, none, some}
use Rattle.signed.specs.Parts.{pos_part, neg_part}
use Rattle.rule.specs.declared.Day.{Day}
use Rattle.rule.specs.Written.{NDay, RecurrenceRule}
use Rattle.rule.specs.Implied.{days_from, month_days_from, months_from}
use Rattle.matcher.specs.Inner.Layout.{dates_at, dates_back, weekdays_at, nths_at, nths_back, positions_at, positions_back}

-- Flag i of those from `at` on, where there are `limit` of them; a number beyond names nothing.
unfoldable pub mark_one : List Bool → ℕ → ℕ → ℕ → List Bool
mark_one fl at limit i = if ltb i limit then set fl (at + i) true else fl

unfoldable pub mark_each : List Bool → ℕ → ℕ → List ℕ → List Bool
mark_each fl at limit [] = fl
mark_each fl at limit (i ∷ l) = mark_each (mark_one fl at limit i) at limit l

-- A signed number: its place, or its place from the end.
unfoldable pub mark_place : List Bool → ℕ → ℕ → ℕ → ℤ → List Bool
mark_place fl on back limit z = mark_one (mark_one fl on limit (pos_part z)) back limit (neg_part z)

unfoldable pub mark_places : List Bool → ℕ → ℕ → ℕ → List ℤ → List Bool
mark_places fl on back limit [] = fl
mark_places fl on back limit (z ∷ l) = mark_places (mark_place fl on back limit z) on back limit l

-- An entry of `byDay`.
unfoldable pub mark_nth : List Bool → ℕ → Option ℤ → List Bool
mark_nth fl w none = mark_one fl weekdays_at 7 w
mark_nth fl w (some z) = if ltb w 7 then mark_place fl (nths_at + 54 * w) (nths_back + 54 * w) 54 z else fl

unfoldable pub mark_days : List Bool → List NDay → List Bool
mark_days fl [] = fl
mark_days fl (e ∷ l) = mark_days (mark_nth fl e.day e.nth_of_period) l

-- All of them: where a by-list is absent.
unfoldable pub mark_all : List Bool → ℕ → ℕ → List Bool
mark_all fl at zero = fl
mark_all fl at (suc n) = mark_all (set fl (at + n) true) at n

-- ---- the whole row

unfoldable pub mark_months : List Bool → List ℕ → List Bool
mark_months fl [] = mark_all fl 0 dates_at
mark_months fl (m ∷ l) = mark_each fl 0 dates_at (m ∷ l)

unfoldable pub mark_dates : List Bool → List ℤ → List Bool
mark_dates fl [] = mark_all fl dates_at 32
mark_dates fl (z ∷ l) = mark_places fl dates_at dates_back 32 (z ∷ l)

unfoldable pub mark_weekdays : List Bool → List NDay → List Bool
mark_weekdays fl [] = mark_all fl weekdays_at 7
mark_weekdays fl (e ∷ l) = mark_days fl (e ∷ l)

unfoldable pub mark_row : List Bool → RecurrenceRule → Day → List Bool
mark_row fl r s =
    mark_places (mark_weekdays (mark_dates (mark_months fl (months_from r s)) (month_days_from r s)) (days_from r s)) positions_at positions_back 367
    r.by_set_position
