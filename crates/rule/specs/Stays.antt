-- 01, 2 and 4: which days of a period stay, and which of those are picked.
use Rattle.std.specs.Prelude.{if◌then◌else◌, ℕ, ◌+◌, ◌-◌, ◌/◌, Bool, true, false, ◌&&◌, eqb, ℤ}
use Rattle.std.proofs.Math.Option.{Option, none, some}
use Rattle.signed.specs.Place.{place_of}
use Rattle.rule.specs.declared.Frequency.{Frequency}
use Rattle.rule.specs.declared.Frequency.TheVariants.{Daily, Weekly, Monthly, Yearly}
use Rattle.rule.specs.declared.Day.{Day}
use Rattle.rule.specs.Day.{day_at}
use Rattle.rule.specs.Written.{NDay, RecurrenceRule}
use Rattle.rule.specs.Lists.{meets, absent, count_in}
use Rattle.rule.specs.Period.{since_first, days_of}
use Rattle.rule.specs.Implied.{days_from, month_days_from, months_from}

-- "`nthOfPeriod` counts that weekday in the month; under yearly with no `byMonth` written, in the year".
unfoldable pub counts_in_year : RecurrenceRule → Bool
counts_in_year r = in_year r.frequency (absent r.by_month)
  where
    in_year : Frequency → Bool → Bool
    in_year Daily no_month = false
    in_year Weekly no_month = false
    in_year Monthly no_month = false
    in_year Yearly no_month = no_month

-- z names a weekday that has `before` days of the month or year before it, which has n days: it is as manieth of its weekday as there
-- are whole weeks before it, and one more; "negative counts from the end".
unfoldable pub is_nth : ℤ → ℕ → ℕ → Bool
is_nth z before n = eqb (place_of z (before / 7 + 1 + (n - (before + 1)) / 7)) (before / 7 + 1)

unfoldable pub meets_nth : Option ℤ → Bool → Day → Bool
meets_nth none in_year d = true
meets_nth (some z) in_year d = if in_year then is_nth z d.yearday d.yeardays else is_nth z (d.monthday - 1) d.monthdays

unfoldable pub meets_day : Bool → Day → NDay → Bool
meets_day in_year d e = eqb e.day d.weekday && meets_nth e.nth_of_period in_year d

-- "A negative day of the month counts back from its end."
unfoldable pub meets_month_day : Day → ℤ → Bool
meets_month_day d z = eqb (place_of z d.monthdays) d.monthday

unfoldable pub meets_month : Day → ℕ → Bool
meets_month d m = eqb m d.month

-- "It stays if every by-list except `bySetPosition` has an entry that it meets."
unfoldable pub stays : RecurrenceRule → Day → Day → Bool
stays r s d =
    meets (meets_month d) (months_from r s)
    && (meets (meets_month_day d) (month_days_from r s) && meets (meets_day (counts_in_year r) d) (days_from r s))

-- The same of a day by its number.
unfoldable pub stays_on : RecurrenceRule → Day → ℕ → Bool
stays_on r s n = stays r s (day_at n)

-- 01, 4: "`bySetPosition` picks places of the period's remaining list, each once, a place beyond it nothing."
unfoldable pub is_place : ℕ → ℕ → ℤ → Bool
is_place length place z = eqb (place_of z length) place

-- The day's place is one more than the days of its period before it that stay; the list is as long as all that stay.
unfoldable pub picked : RecurrenceRule → Day → Day → Bool
picked r s d =
    let before = since_first r.frequency r.first_day_of_week d in
    let first = d.number - before in
    let length = count_in (stays_on r s) first (days_of r.frequency d) in
    let place = count_in (stays_on r s) first before + 1 in
    meets (is_place length place) r.by_set_position
