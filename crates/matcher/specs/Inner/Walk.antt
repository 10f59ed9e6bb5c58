-- A rule from day to day, over its terms and its row of flags.
use Rattle.std.specs.Prelude.{if◌then◌else◌, ℕ, ◌+◌, ◌-◌, ◌%◌, ◌<◌, ◌≤◌, Bool, true, false, List, ◌≡◌, eqb}
use Rattle.rule.specs.declared.Day.{Day}
use Rattle.rule.specs.Day.{day_at}
use Rattle.rule.specs.Lists.{count_in}
use Rattle.rule.specs.Period.{period_of, since_first, days_of}
use Rattle.rule.specs.Gives.{end_day}
use Rattle.matcher.specs.declared.Terms.{Terms}
use Rattle.matcher.specs.Inner.Flags.{named, stays_by}
use Rattle.matcher.specs.Inner.Layout.{row_size, positions_at, positions_back}

unfoldable pub stays_on_by : List Bool → Bool → ℕ → Bool
stays_on_by fl in_year n = stays_by fl in_year (day_at n)

unfoldable pub step_by : Terms → Day → Bool
step_by t x = eqb ((period_of t.frequency t.first x - t.period) % t.interval) 0

unfoldable pub placed_by : Terms → List Bool → Day → Bool
placed_by t fl x =
    let before = since_first t.frequency t.first x in
    let first = x.number - before in
    let count = count_in (stays_on_by fl t.inyear) first (days_of t.frequency x) in
    named fl positions_at positions_back (count_in (stays_on_by fl t.inyear) first before + 1) count

unfoldable pub picks_by : Terms → List Bool → Day → Bool
picks_by t fl x =
    let placed = placed_by t fl x in
    if stays_by fl t.inyear x then (if step_by t x then (if t.placed then placed else true) else false) else false

unfoldable pub picks_on_by : Terms → List Bool → ℕ → Bool
picks_on_by t fl n = picks_by t fl (day_at n)

-- A rule is asked about a day of the profile: from 1601 on and not after 9998.
pub record Asked (t : Terms) (row : ℕ) (x : Day) : Type 0 where
  pub row_length : row ≡ row_size
  pub week : t.first < 7
  pub day : x ≡ day_at x.number
  pub low : 366 ≤ x.number
  pub high : x.number < end_day
