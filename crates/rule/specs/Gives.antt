-- 01, 4 to 6: which date-times a rule gives. A date-time is its seconds from 1600-01-01T00:00:00: one number, with the order of time,
-- whose quotient by 86,400 is the day and whose remainder is the time of day.
use Rattle.std.specs.Prelude.{ℕ, ◌+◌, ◌-◌, ◌*◌, ◌/◌, ◌%◌, Bool, not, ◌&&◌, ◌||◌, eqb, leb, ltb}
use Rattle.rule.specs.Day.{day_at}
use Rattle.rule.specs.Written.{RecurrenceRule}
use Rattle.rule.specs.Lists.{count_in, within, not_after}
use Rattle.rule.specs.Period.{in_step}
use Rattle.rule.specs.Stays.{stays, picked}

-- 01, 5: "Nothing occurs after 9998": the day number of 9999-01-01.
abbrev pub end_day : ℕ
end_day = 3067672

-- 01, 2: "Each day of the period at the start's time of day is a candidate."
abbrev pub on_day : ℕ → ℕ → ℕ
on_day start d = 86400 * d + start % 86400

-- The rule picks the day d: it lies in a period of the rule, stays, has a picked place. 01, 4: "Then dates before the start fall away."
unfoldable pub picks : RecurrenceRule → ℕ → ℕ → Bool
picks r start d =
    let s = day_at (start / 86400) in
    let t = day_at d in
    leb (start / 86400) d && (in_step r s t && (stays r s t && picked r s t))

-- 01, 5: "The start is always the first occurrence .., even unmatched, and even where `until` lies before it (house). `until` is
-- inclusive." 01, 6: "An excluded rule is read the same way, but the start belongs to it .. only where it matches and no `until` lies
-- before it."
unfoldable pub falls : Bool → RecurrenceRule → ℕ → ℕ → Bool
falls excluded r start d =
    (not excluded && eqb d (start / 86400)) || (picks r start d && not_after (on_day start d) r.until)

-- The date-time x is one that the rule gives: it has the start's time of day, its day is one of the rule's, and fewer than `count` of
-- those came before it. 01, 5: the start "is counted", of an excluded rule (6) only where it belongs to it.
unfoldable pub gives : Bool → RecurrenceRule → ℕ → ℕ → Bool
gives excluded r start x =
    let d = x / 86400 in
    let earlier = count_in (falls excluded r start) (start / 86400) (d - start / 86400) in
    eqb (x % 86400) (start % 86400) && (ltb d end_day && (falls excluded r start d && within earlier r.count))
