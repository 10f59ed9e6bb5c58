-- Events that agree have the same occurrences, with the same times.
use Rattle.std.specs.Prelude.{if◌then◌else◌}
use Prim.Native.Nat.{ℕ, ◌-◌}
use mathlib.Core.Bool.{Bool, true, false, not, ◌&&◌, ◌||◌}
use mathlib.Core.List.{List, [], ◌∷◌, map}
use mathlib.Core.Option.{none, some}
use mathlib.Core.Path.{◌≡◌, refl, sym, ap, ◌∙◌}
use lib.Dec.{eqb}
use Rattle.signed.proofs.Parts.{true-false, false-true}
use Rattle.rule.specs.Lists.{any}
use Rattle.recurrence.specs.Event as recurrence
use Rattle.recurrence.specs.Event.{override_excludes, override_names, is_start, rule_gives, excluded_rule_gives, in_set}
use Rattle.recurrence.specs.Ids.{seconds_from, keep, ids}
use Rattle.event.specs.Types.{Details, Override, Event}
use Rattle.call_definitions.specs.Occurrence.{dates_of, is_occurrence, occurrences, override_at, with_start, patched_by, details_at}
use Rattle.call_definitions.specs.Agree.{Times, times_of, Agree}

module _ (a b : Event) (g : Agree a b) where
  same_start : a.details.start ≡ b.details.start
  unfolding times_of
  same_start = ap (λ (t : Times). t.start) g.times

  pub same_set : (x : ℕ) → is_occurrence a x ≡ is_occurrence b x
  unfolding is_occurrence in_set is_start rule_gives excluded_rule_gives dates_of
  same_set x = rw (g.names x, g.excludes x, same_start, g.rules, g.excluded_rules)

  pub same-occurrences : (from to : ℕ) → occurrences a from to ≡ occurrences b from to
  unfolding occurrences ids is_occurrence
  same-occurrences from to = λ i. keep (λ (x : ℕ). same_set x i) (seconds_from from (to - from))

-- ---- what each occurrence has

-- no override names x
no-override : (l : List Override) (x : ℕ)
    → any (λ (o : recurrence.Override). eqb o.id x) (map (λ (o : Override). record { id = o.id; excluded = o.excluded }) l) ≡ false
    → override_at l x ≡ none
unfolding any override_at
no-override [] x h = refl
no-override (o ∷ l) x h = by (eqb o.id x) refl (no-override l x)
  where
    rest : Bool
    rest = any (λ (o : recurrence.Override). eqb o.id x) (map (λ (o : Override). record { id = o.id; excluded = o.excluded }) l)

    by : (t : Bool) → eqb o.id x ≡ t → (rest ≡ false → override_at l x ≡ none) → (if t then some o else override_at l x) ≡ none
    by true e later = true-false (sym (ap (λ (t : Bool). t || rest) e) ∙ h)
    by false e later = later (sym (ap (λ (t : Bool). t || rest) e) ∙ h)

-- an occurrence is not excluded
not-excluded : (e n s g f : Bool) → (not e && (n || ((s || g) && not f))) ≡ true → e ≡ false
not-excluded true n s g f h = false-true h
not-excluded false n s g f h = refl

plain-times : (a b : Details) (x : ℕ) → times_of a ≡ times_of b → times_of (with_start a x) ≡ times_of (with_start b x)
unfolding times_of with_start
plain-times a b x e =
    λ i. record { start = x; length = (e i).length; busy = (e i).busy; all_day = (e i).all_day }

module _ (a b : Event) (g : Agree a b) where
  unnamed : (e : Event) (x : ℕ) → override_names (dates_of e) x ≡ false → details_at e x ≡ with_start e.details x
  unfolding details_at patched_by override_names dates_of
  unnamed e x h = rw (no-override e.overrides x h)

  pub same-times : (x : ℕ) → is_occurrence a x ≡ true → times_of (details_at a x) ≡ times_of (details_at b x)
  unfolding is_occurrence in_set
  same-times x h = by (override_names (dates_of a) x) refl
    where
      kept : override_excludes (dates_of a) x ≡ false
      kept =
          not-excluded (override_excludes (dates_of a) x) (override_names (dates_of a) x) (is_start (dates_of a) x) (rule_gives (dates_of a) x)
          (excluded_rule_gives (dates_of a) x) h

      by : (t : Bool) → override_names (dates_of a) x ≡ t → times_of (details_at a x) ≡ times_of (details_at b x)
      by true e = g.patched x e kept
      by false e = rw (unnamed a x e, unnamed b x (sym (g.names x) ∙ e)) (plain-times a.details b.details x g.times)
