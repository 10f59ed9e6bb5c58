-- The places of the flags in a rule's row, and the rows' sizes. src/layout.rt has the same numbers.
--
-- From 0 on are the months, 1 to 12. Then follow the days of the month, 1 to 31; the weekdays without `nthOfPeriod`, 0 to 6;
-- 54 flags for each weekday, its place in the month or year, 1 to 53; and the set positions, 1 to 366. Places that count
-- from the end, too, have a second run of flags for that: `..Back`.
use Rattle.std.specs.Prelude.{ℕ}

abbrev pub dates_at : ℕ
dates_at = 13

abbrev pub dates_back : ℕ
dates_back = 45

abbrev pub weekdays_at : ℕ
weekdays_at = 77

abbrev pub nths_at : ℕ
nths_at = 84

abbrev pub nths_back : ℕ
nths_back = 462

-- All places of all weekdays.
abbrev pub nths_size : ℕ
nths_size = 756

abbrev pub positions_at : ℕ
positions_at = 840

abbrev pub positions_back : ℕ
positions_back = 1207

abbrev pub row_size : ℕ
row_size = 1574

-- A list of eight rules, and both lists of an event.
abbrev pub list_size : ℕ
list_size = 12592

abbrev pub lists_size : ℕ
lists_size = 25184
