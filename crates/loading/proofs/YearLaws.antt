-- The occurrences of an accepted event lie in the years 1601 to 9998.
use Prim.Native.Nat.{ℕ, suc, ◌/◌, ◌<◌, ◌≤◌}
use mathlib.Core.Bool.{true, false, false≢true, not, ◌&&◌, ◌||◌}
use mathlib.Core.List.{List, [], ◌∷◌, map}
use mathlib.Core.Logic.{⊎_elim}
use mathlib.Core.Path.{◌≡◌, sym, subst}
use native.Mathlib.Omega.{arith}
use borrow.Author.Tests.{eqb-true}
use lib.Dec.{eqb}
use Rattle.rule.specs.Written.{RecurrenceRule}
use Rattle.rule.specs.Lists.{any, not_after}
use Rattle.rule.specs.Gives.{end_day, on_day, picks, falls, gives}
use Rattle.rule.proofs.Bools.{or-either, left, right}
use Rattle.rule.proofs.GivesLaws.{given-parts, picks-low}
use Rattle.event.specs.Types.{Override, Event}
use Rattle.recurrence.specs.Event as recurrence
use Rattle.recurrence.specs.Event.{override_excludes, override_names, is_start, some_gives, rule_gives, excluded_rule_gives, in_set}
use Rattle.call_definitions.specs.Occurrence.{dates_of, is_occurrence}
use Rattle.override_text.proofs.RangeLaws.{InYears}
use Rattle.loading.proofs.PatchLaws.{Ranged}

-- ---- the dates of a rule

module _ (start x : ℕ) (begin : InYears start) where
  day-years : start / 86400 ≤ x / 86400 → x / 86400 < end_day → InYears x
  day-years low high = record { from = omega (arith, begin.from); to = omega arith }

  rule-years : (r : RecurrenceRule) → gives false r start x ≡ true → InYears x
  unfolding falls
  rule-years r e =
      let g = given-parts false r start x e in
      ⊎_elim (λ (f : eqb (x / 86400) (start / 86400) ≡ true). day-years (omega (arith, eqb-true (x / 86400) (start / 86400) f)) g.last)
      (λ (f : (picks r start (x / 86400) && not_after (on_day start (x / 86400)) r.until) ≡ true).
      day-years (picks-low r start (x / 86400) (left _ _ f)) g.last)
      (or-either (eqb (x / 86400) (start / 86400)) (picks r start (x / 86400) && not_after (on_day start (x / 86400)) r.until) g.falling)

  rules-years : (rs : List RecurrenceRule) → some_gives false rs start x ≡ true → InYears x
  unfolding some_gives any
  rules-years [] e = absurd (false≢true e)
  rules-years (r ∷ rs) e = ⊎_elim (rule-years r) (rules-years rs) (or-either (gives false r start x) (some_gives false rs start x) e)

-- ---- the dates of overrides

override-years : (x : ℕ) (os : List Override) → Ranged os
    → any (λ (o : recurrence.Override). eqb o.id x) (map (λ (o : Override). record { id = o.id; excluded = o.excluded }) os) ≡ true → InYears x
unfolding any
override-years x [] range e = absurd (false≢true e)
override-years x (o ∷ os) range e =
    ⊎_elim (λ (f : eqb o.id x ≡ true). subst InYears (eqb-true o.id x f) (range 0 (omega arith) o).id)
    (override-years x os (λ k p d. range (suc k) (omega arith) d))
    (or-either (eqb o.id x) _ e)

-- ---- the set

pub event-years : (e : Event) → InYears e.details.start → Ranged e.overrides → (x : ℕ) → is_occurrence e x ≡ true → InYears x
unfolding is_occurrence in_set dates_of override_names is_start rule_gives
event-years e begin range x h =
    let there = right (not (override_excludes (dates_of e) x)) _ h in
    ⊎_elim (override-years x e.overrides range)
    (λ (f : ((is_start (dates_of e) x || rule_gives (dates_of e) x) && not (excluded_rule_gives (dates_of e) x)) ≡ true).
    ⊎_elim (λ (g : is_start (dates_of e) x ≡ true). subst InYears (sym (eqb-true x e.details.start g)) begin)
    (rules-years e.details.start x begin e.rules)
    (or-either (is_start (dates_of e) x) (rule_gives (dates_of e) x) (left _ _ f)))
    (or-either (override_names (dates_of e) x) _ there)
