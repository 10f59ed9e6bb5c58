-- A rule that was settled gives the date-times of the days that it has.
use Rattle.std.specs.Prelude.{if◌then◌else◌}
use Prim.Native.Nat.{ℕ, ◌-◌, ◌/◌, ◌%◌, ◌<◌, ◌≤◌}
use mathlib.Core.Bool.{Bool, true, false, not, ◌&&◌, ◌||◌}
use mathlib.Core.List.{List}
use mathlib.Core.Path.{◌≡◌, refl, sym, ap, ◌∙◌, subst}
use native.Mathlib.Omega.{arith}
use lib.Dec.{eqb, ltb}
use lib.ListN.{length, get_or, length-replicate}
use borrow.Author.Tests.{lt-ltb, le-ltb, eq-eqb}
use Rattle.rule.specs.declared.Day.{Day}
use Rattle.rule.specs.declared.End.{End}
use Rattle.rule.specs.declared.End.TheVariants.{Never, Until, Count}
use Rattle.rule.specs.declared.Rule.{Rule}
use Rattle.rule.specs.Day.{day_at}
use Rattle.rule.specs.Lists.{count_in, within, not_after}
use Rattle.rule.specs.Period.{period_of}
use Rattle.rule.specs.Written.{RecurrenceRule}
use Rattle.rule.specs.Gives.{end_day, on_day, picks, falls, gives}
use Rattle.rule.specs.Inner.Read.{until_from, count_from, written}
use Rattle.rule.proofs.Counting.{count_same}
use Rattle.matcher.specs.declared.Terms.{Terms}
use Rattle.matcher.specs.Inner.Layout.{row_size}
use Rattle.matcher.specs.Inner.Walk.{picks_on_by}
use Rattle.matcher.specs.Inner.Rows.{Termed}
use Rattle.matcher.specs.Inner.Member.{is_first, falls_on_by}
use Rattle.matcher.proofs.RowLaws.{Marked, row-marked}
use Rattle.matcher.proofs.GiveLaws.{clear-row, picks-here, falls-same}
use Rattle.track.specs.declared.Track.{Track}
use Rattle.track.specs.Inner.Runs.{has_day}
use Rattle.track.specs.Inner.Last.{until_day, end_of, last_by}
use Rattle.track.specs.Inner.Settle.{cleared, SettledBy, Settled}
use Rattle.track.proofs.LastLaws.{count-ends, until-ends}

-- the terms' own period is that of the start
pub termed-begun : (r : RecurrenceRule) (t : Terms) (x : Day) (n : ℕ) → Termed r x t → x ≡ day_at n → t.period ≤ period_of t.frequency t.first (day_at n)
termed-begun r t x n e is =
    let same : t.period ≡ period_of t.frequency t.first (day_at n) =
    rw (e.frequency, e.first) (e.period ∙ ap (period_of r.frequency r.first_day_of_week) is) in
    omega arith

module _ (excluded : Bool) (r : Rule) (start limit : ℕ) (t : Terms) (row : List Bool) (low : 366 ≤ start / 86400)
    (e : Termed (written r) (day_at (start / 86400)) t) (m : Marked (written r) (day_at (start / 86400)) row)
    (d : ℕ) (after : start / 86400 ≤ d) (before : d < limit) (most : limit ≤ end_day)
    (other : is_first excluded (start / 86400) d ≡ false) where
  -- not the start's own day of a rule: the rule has it by its picks and its `until`
  falls-picked : falls excluded (written r) start d ≡ (picks_on_by t row d && not_after (on_day start d) (until_from r.end))
  unfolding falls is_first picks_on_by written
  falls-picked =
      ap (λ (b : Bool). b || (picks (written r) start d && not_after (on_day start d) (until_from r.end))) (apart excluded other)
      ∙ ap (λ (b : Bool). b && not_after (on_day start d) (until_from r.end)) (sym (picks-here excluded r start t row low e m d after (omega arith)))
    where
      apart : (x : Bool) → (if x then false else eqb d (start / 86400)) ≡ false → (not x && eqb d (start / 86400)) ≡ false
      apart true f = refl
      apart false f = f

  earlier : ℕ
  earlier = count_in (falls excluded (written r) start) (start / 86400) (d - start / 86400)

  gives-day : gives excluded (written r) start (on_day start d)
      ≡ (picks_on_by t row d && not_after (on_day start d) (until_from r.end) && within earlier (count_from r.end))
  unfolding gives earlier written
  gives-day =
      let day : on_day start d / 86400 ≡ d = omega arith in
      let time : on_day start d % 86400 ≡ start % 86400 = omega arith in
      rw (day, eq-eqb (on_day start d % 86400) (start % 86400) time, lt-ltb d end_day (omega arith))
      (ap (λ (b : Bool). b && within (count_in (falls excluded (written r) start) (start / 86400) (d - start / 86400)) (count_from r.end)) falls-picked)

  earlier-same : earlier ≡ count_in (falls_on_by excluded r.end t row start) (start / 86400) (d - start / 86400)
  unfolding earlier
  earlier-same =
      sym (count_same (falls_on_by excluded r.end t row start) (falls excluded (written r) start) (start / 86400) (d - start / 86400)
      (λ j a b. falls-same excluded r start t row low e m j a (omega arith)))

  -- `until` and `count` together let the day through exactly when it lies before the end
  ended : (end : End) → r.end ≡ end
      → (p : Bool) → (p && not_after (on_day start d) (until_from end) && within earlier (count_from end))
      ≡ (if ltb d (last_by excluded end t row start limit) then p else false)
  unfolding last_by until_from count_from not_after within
  ended Never is p = rw (lt-ltb d end_day (omega arith)) (all p)
    where
      all : (p : Bool) → (p && true && true) ≡ p
      all true = refl
      all false = refl
  ended (Until u) is p = rw (until-ends start u d (omega arith)) (cut p (ltb d (until_day start u)))
    where
      cut : (p b : Bool) → (p && b && true) ≡ (if b then p else false)
      cut true true = refl
      cut true false = refl
      cut false true = refl
      cut false false = refl
  ended (Count n) is p =
      rw (earlier-same, is, count-ends (falls_on_by excluded (Count n) t row start) (limit - start / 86400) (start / 86400) n d after (omega arith))
      (cut p (ltb d (end_of (falls_on_by excluded (Count n) t row start) (limit - start / 86400) (start / 86400) n)))
    where
      cut : (p b : Bool) → (p && true && b) ≡ (if b then p else false)
      cut true true = refl
      cut true false = refl
      cut false true = refl
      cut false false = refl

  pub settled-day : (last : ℕ) → last ≡ last_by excluded r.end t row start limit
      → gives excluded (written r) start (on_day start d) ≡ has_day (record { terms = t; last = last }) row (start / 86400) d
  unfolding has_day
  settled-day last is =
      gives-day ∙ (ended r.end refl (picks_on_by t row d) ∙ rw (le-ltb d (start / 86400) after, is))

cleared-size : (n : ℕ) → length (cleared n) ≡ n
unfolding cleared
cleared-size n = length-replicate n false

cleared-flag : (n j : ℕ) → get_or (cleared n) j false ≡ false
unfolding cleared
cleared-flag n j = clear-row n j

-- what the code settles, with a row that was clear before
pub settled : (excluded : Bool) (r : Rule) (start limit : ℕ) (row : List Bool) (t : Track) → 366 ≤ start / 86400 → limit ≤ end_day
    → SettledBy excluded r start limit (cleared row_size) row t → Settled excluded start limit (written r) row t
settled excluded r start limit row t low most s =
    let m : Marked (written r) (day_at (start / 86400)) row =
    subst (Marked (written r) (day_at (start / 86400))) (sym s.row)
    (row-marked (cleared row_size) (written r) (day_at (start / 86400)) (cleared-size row_size) (cleared-flag row_size))
    in
    record {
      size = m.size;
      week = s.terms.week;
      days = λ d after before other.
          settled-day excluded r start limit t.terms row low s.terms m d after before most other t.last s.last;
    }
