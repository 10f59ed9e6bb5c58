-- The first day that is not a rule's own any more: its `until` and its `count` as a day.
use Rattle.std.specs.Prelude.{if◌then◌else◌, ℕ, zero, suc, ◌+◌, ◌-◌, ◌/◌, ◌%◌, ◌<◌, ◌≤◌, Bool, List, ◌≡◌, eqb, leb, ltb}
use Rattle.rule.specs.declared.End.{End}
use Rattle.rule.specs.declared.End.TheVariants.{Never, Until, Count}
use Rattle.rule.specs.Day.{day_at}
use Rattle.rule.specs.Period.{period_of}
use Rattle.rule.specs.Gives.{end_day}
use Rattle.matcher.specs.declared.Terms.{Terms}
use Rattle.matcher.specs.Inner.Layout.{row_size}
use Rattle.matcher.specs.Inner.Member.{falls_on_by}

-- 01, 5: "`until` is inclusive": the day after the last that has the start's time of day not after it.
unfoldable pub until_day : ℕ → ℕ → ℕ
until_day start until =
    let day = (until - start % 86400) / 86400 in
    let later = if leb end_day day then end_day else day + 1 in
    if ltb until (start % 86400) then 0 else later

-- The first of k days from d on that has n days before it that pass, from d on; the day after them where there is none.
unfoldable pub end_of : (ℕ → Bool) → ℕ → ℕ → ℕ → ℕ
end_of p zero d n = d
end_of p (suc k) d n =
    let found = end_of p k (suc d) (n - 1) in
    let other = end_of p k (suc d) n in
    let more = if p d then found else other in
    if eqb n 0 then d else more

-- The days from `limit` on are not asked for.
unfoldable pub last_by : Bool → End → Terms → List Bool → ℕ → ℕ → ℕ
last_by excluded Never t row start limit = end_day
last_by excluded (Until u) t row start limit = until_day start u
last_by excluded (Count n) t row start limit =
    end_of (falls_on_by excluded (Count n) t row start) (limit - start / 86400) (start / 86400) n

pub record Ending (t : Terms) (row start limit : ℕ) : Type 0 where
  pub row_length : row ≡ row_size
  pub week : t.first < 7
  pub low : 366 ≤ start / 86400
  pub high : start / 86400 < end_day
  pub within : limit ≤ end_day
  pub begun : t.period ≤ period_of t.frequency t.first (day_at (start / 86400))
