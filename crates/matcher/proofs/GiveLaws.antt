-- A rule gives a date-time by its terms and its row exactly when the rule does.
use Rattle.std.specs.Prelude.{if◌then◌else◌}
use Prim.Native.Nat.{ℕ, zero, suc, ◌/◌, ◌%◌, ◌<◌, ◌≤◌}
use mathlib.Core.Bool.{Bool, true, false, not, ◌&&◌, ◌||◌}
use mathlib.Core.List.{List}
use mathlib.Core.Path.{◌≡◌, refl, sym, ◌∙◌}
use native.Mathlib.Omega.{arith}
use lib.Dec.{eqb}
use lib.ListN.{get_or, replicate}
use borrow.Author.Tests.{le-leb, lt-leb, lt-ltb, ne_eqb}
use Rattle.rule.specs.declared.Rule.{Rule}
use Rattle.rule.specs.Day.{day_at}
use Rattle.rule.specs.Written.{RecurrenceRule}
use Rattle.rule.specs.Lists.{not_after}
use Rattle.rule.specs.Gives.{end_day, on_day, picks, falls, gives}
use Rattle.rule.specs.Inner.Read.{until_from, written}
use Rattle.rule.proofs.PeriodLaws.{day-number}
use Rattle.matcher.specs.declared.Terms.{Terms}
use Rattle.matcher.specs.Inner.Rows.{Termed}
use Rattle.matcher.specs.Inner.Walk.{picks_by, picks_on_by}
use Rattle.matcher.specs.Inner.Member.{is_first, falls_by, falls_on_by}
use Rattle.matcher.proofs.RowLaws.{Marked}
use Rattle.matcher.proofs.PickLaws.{picks-same}

and_none : (a : Bool) → (a && false) ≡ false
and_none true = refl
and_none false = refl

pub early-day : (excluded : Bool) (r : RecurrenceRule) (start d : ℕ) → d < start / 86400 → falls excluded r start d ≡ false
unfolding falls picks
early-day excluded r start d h =
    rw (ne_eqb d (start / 86400) (omega arith), lt-leb (start / 86400) d h) (go excluded)
  where
    go : (b : Bool) → ((not b && false) || false) ≡ false
    go true = refl
    go false = refl

-- the test of the start, and of the days that are picked
joined : (excluded b c u : Bool) → (if (if excluded then false else b) then true else (if c then u else false)) ≡ ((not excluded && b) || (c && u))
joined true b true u = refl
joined true b false u = refl
joined false true c u = refl
joined false false true u = refl
joined false false false u = refl

module _ (excluded : Bool) (r : RecurrenceRule) (start : ℕ) where
  -- whatever lies outside falls away
  pub never-timed : (x : ℕ) → (x % 86400 ≡ start % 86400 → ⊥) → false ≡ gives excluded r start x
  unfolding gives
  never-timed x h = rw (ne_eqb (x % 86400) (start % 86400) h)

  pub not-falling : (x : ℕ) → x / 86400 < end_day → falls excluded r start (x / 86400) ≡ false → false ≡ gives excluded r start x
  unfolding gives
  not-falling x h e = rw (e, lt-ltb (x / 86400) end_day h) (sym (and_none (eqb (x % 86400) (start % 86400))))

module _ (excluded : Bool) (r : Rule) (start : ℕ) (t : Terms) (row : List Bool) (low : 366 ≤ start / 86400)
    (e : Termed (written r) (day_at (start / 86400)) t) (m : Marked (written r) (day_at (start / 86400)) row) where
  pub picks-here : (n : ℕ) → start / 86400 ≤ n → n < end_day → picks_by t row (day_at n) ≡ picks (written r) start n
  unfolding picks picks_on_by
  picks-here n after before =
      picks-same (written r) (day_at (start / 86400)) t row e m n (omega arith) before ∙ rw (le-leb (start / 86400) n after)

  pub falls-same : (n : ℕ) → start / 86400 ≤ n → n < end_day → falls_on_by excluded r.end t row start n ≡ falls excluded (written r) start n
  unfolding falls_on_by falls_by falls is_first written
  falls-same n after before =
      rw (picks-here n after before, day-number n)
      (joined excluded (eqb n (start / 86400)) (picks (written r) start n) (not_after (on_day start n) (until_from r.end)))

-- n flags, none of them set
pub clear-row : (n j : ℕ) → get_or (replicate n false) j false ≡ false
clear-row zero j = refl
clear-row (suc n) zero = refl
clear-row (suc n) (suc j) = clear-row n j
