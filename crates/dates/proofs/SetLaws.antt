-- The set over what the code keeps is the set of the event that it stands for.
use Rattle.std.specs.Prelude.{if◌then◌else◌}
use Prim.Native.Nat.{ℕ, ◌/◌, ◌%◌, ◌<◌, ◌≤◌}
use mathlib.Core.Bool.{Bool, true, false, not, ◌&&◌, ◌||◌}
use mathlib.Core.List.{List, [], ◌∷◌}
use mathlib.Core.Path.{◌≡◌, refl, sym, ap, ◌∙◌}
use native.Mathlib.Omega.{arith}
use lib.Dec.{eqb, ltb}
use lib.ListN.{take, drop}
use borrow.Author.Tests.{eq-eqb, ne_eqb, eqb-true, eqb-false, ltb-true, ltb-false, lt-ltb}
use Rattle.rule.specs.Written.{RecurrenceRule}
use Rattle.rule.specs.Lists.{any}
use Rattle.rule.specs.Gives.{on_day, gives}
use Rattle.rule.proofs.Bools.{by}
use Rattle.matcher.specs.Inner.Layout.{row_size}
use Rattle.matcher.specs.Inner.Member.{is_first}
use Rattle.matcher.proofs.GiveLaws.{never-timed, not-falling, early-day}
use Rattle.track.specs.declared.Track.{Track}
use Rattle.track.specs.Inner.Runs.{has_day}
use Rattle.recurrence.specs.Event.{Override, Event, override_excludes, override_names, is_start, some_gives, rule_gives, excluded_rule_gives, in_set}
use Rattle.dates.specs.Inner.Tracked.{some_has}
use Rattle.dates.specs.Inner.Overrides.{counts, is_named}
use Rattle.dates.specs.Inner.Loaded.{Loaded, by_rules, is_in}
use Rattle.dates.specs.Inner.Stands.{Settles, overrides_of, Stands}

-- ---- the overrides

names_same : (ids : List ℕ) (gone : List Bool) (x : ℕ) → any (λ o. eqb o.id x) (overrides_of ids gone) ≡ is_named false ids gone x
unfolding any overrides_of is_named counts
names_same [] gone x = refl
names_same (i ∷ ids) [] x = refl
names_same (i ∷ ids) (g ∷ gone) x = ap (λ (b : Bool). eqb i x || b) (names_same ids gone x)

excludes-same : (ids : List ℕ) (gone : List Bool) (x : ℕ) → any (λ o. o.excluded && eqb o.id x) (overrides_of ids gone) ≡ is_named true ids gone x
unfolding any overrides_of is_named counts
excludes-same [] gone x = refl
excludes-same (i ∷ ids) [] x = refl
excludes-same (i ∷ ids) (g ∷ gone) x = ap (λ (b : Bool). (g && eqb i x) || b) (excludes-same ids gone x)

-- ---- the rules of a list, for both lists

module _ (excluded : Bool) (start limit : ℕ) where
  pub some-gives : (rs : List RecurrenceRule) (ts : List Track) (flags : List Bool) → Settles excluded start limit rs ts flags
      → (d : ℕ) → start / 86400 ≤ d → d < limit → is_first excluded (start / 86400) d ≡ false
      → some_gives excluded rs start (on_day start d) ≡ some_has ts flags (start / 86400) d
  unfolding some_gives any some_has
  some-gives [] [] flags s d low high other = refl
  some-gives [] (t ∷ ts) flags s d low high other = absurd s
  some-gives (r ∷ rs) [] flags s d low high other = absurd s
  some-gives (r ∷ rs) (t ∷ ts) flags s d low high other =
      rw (s.0.days d low high other) (ap (λ (b : Bool). has_day t (take row_size flags) (start / 86400) d || b) (some-gives rs ts (drop row_size flags) s.1 d low high other))

  none-gives : (rs : List RecurrenceRule) (x : ℕ) → ((r : RecurrenceRule) → gives excluded r start x ≡ false) → some_gives excluded rs start x ≡ false
  unfolding some_gives any
  none-gives [] x h = refl
  none-gives (r ∷ rs) x h = rw (h r) (none-gives rs x h)

some-early : (ts : List Track) (flags : List Bool) (begin d : ℕ) → d < begin → some_has ts flags begin d ≡ false
unfolding some_has has_day
some-early [] flags begin d h = refl
some-early (t ∷ ts) flags begin d h = rw (lt-ltb d begin h) (some-early ts (drop row_size flags) begin d h)

-- ---- the set

module _ (e : Event) (limit : ℕ) (l : Loaded) (s : Stands e limit l) (x : ℕ) (within : x / 86400 < limit) where
  ruled : Bool
  ruled = if eqb (x % 86400) (l.start % 86400) then by_rules l (x / 86400) else false

  given : Bool
  given = (is_start e x || rule_gives e x) && not (excluded_rule_gives e x)

  start_is : e.start ≡ l.start
  start_is = sym s.start

  nothing : is_start e x ≡ false → rule_gives e x ≡ false → given ≡ false
  unfolding given
  nothing f g = rw (f, g)

  -- another time of day
  untimed : (x % 86400 ≡ l.start % 86400 → ⊥) → given ≡ false
  unfolding is_start rule_gives
  untimed h =
      nothing (rw start_is (ne_eqb x l.start (λ same. h (ap (λ (n : ℕ). n % 86400) same))))
      (rw start_is (none-gives false l.start limit e.rules x (λ r. sym (never-timed false r l.start x h))))

  -- before the start's day
  early : x / 86400 < l.start / 86400 → given ≡ false
  unfolding is_start rule_gives
  early h =
      let most = s.within in
      nothing (rw start_is (ne_eqb x l.start (λ same. omega arith)))
      (rw start_is (none-gives false l.start limit e.rules x
      (λ r. sym (not-falling false r l.start x (omega arith) (early-day false r l.start (x / 86400) h)))))

  module _ (timed : x % 86400 ≡ l.start % 86400) (after : l.start / 86400 ≤ x / 86400) where
    at : x ≡ on_day l.start (x / 86400)
    at = omega arith

    excluded-same : excluded_rule_gives e x ≡ some_has l.excluded l.excluded_flags (l.start / 86400) (x / 86400)
    unfolding excluded_rule_gives is_first
    excluded-same =
        rw start_is
        (ap (some_gives true e.excluded_rules l.start) at
        ∙ some-gives true l.start limit e.excluded_rules l.excluded l.excluded_flags s.excluded (x / 86400) after within refl)

    on-start : x / 86400 ≡ l.start / 86400 → is_start e x ≡ true
    unfolding is_start
    on-start same = rw start_is (eq-eqb x l.start (omega arith))

    off-start : (x / 86400 ≡ l.start / 86400 → ⊥) → (is_start e x || rule_gives e x) ≡ some_has l.rules l.rule_flags (l.start / 86400) (x / 86400)
    unfolding is_start rule_gives is_first
    off-start other =
        rw (start_is, ne_eqb x l.start (λ same. other (ap (λ (n : ℕ). n / 86400) same)))
        (ap (some_gives false e.rules l.start) at
        ∙ some-gives false l.start limit e.rules l.rules l.rule_flags s.rules (x / 86400) after within (ne_eqb (x / 86400) (l.start / 86400) other))

    joined : (a b : Bool) → (if b then false else a) ≡ (a && not b)
    joined true true = refl
    joined true false = refl
    joined false true = refl
    joined false false = refl

    on-day : by_rules l (x / 86400) ≡ given
    unfolding by_rules given
    on-day =
        let either : (if eqb (x / 86400) (l.start / 86400) then true else some_has l.rules l.rule_flags (l.start / 86400) (x / 86400)) ≡ (is_start e x || rule_gives e x) =
        by (eqb (x / 86400) (l.start / 86400))
        (λ f. rw (f, on-start (eqb-true (x / 86400) (l.start / 86400) f)))
        (λ f. rw f (sym (off-start (eqb-false (x / 86400) (l.start / 86400) f))))
        in
        rw excluded-same
        (joined (if eqb (x / 86400) (l.start / 86400) then true else some_has l.rules l.rule_flags (l.start / 86400) (x / 86400)) (some_has l.excluded l.excluded_flags (l.start / 86400) (x / 86400))
        ∙ ap (λ (b : Bool). b && not (some_has l.excluded l.excluded_flags (l.start / 86400) (x / 86400))) either)

  early-rules : x / 86400 < l.start / 86400 → by_rules l (x / 86400) ≡ false
  unfolding by_rules
  early-rules h =
      rw (some-early l.excluded l.excluded_flags (l.start / 86400) (x / 86400) h, ne_eqb (x / 86400) (l.start / 86400) (λ same. omega arith))
      (some-early l.rules l.rule_flags (l.start / 86400) (x / 86400) h)

  ruled-same : ruled ≡ given
  unfolding ruled
  ruled-same =
      by (eqb (x % 86400) (l.start % 86400))
      (λ f.
      rw f
      (by (ltb (x / 86400) (l.start / 86400))
      (λ g. early-rules (ltb-true (x / 86400) (l.start / 86400) g) ∙ sym (early (ltb-true (x / 86400) (l.start / 86400) g)))
      (λ g. on-day (eqb-true (x % 86400) (l.start % 86400) f) (ltb-false (x / 86400) (l.start / 86400) g))))
      (λ f. rw f (sym (untimed (eqb-false (x % 86400) (l.start % 86400) f))))

  named-same : override_names e x ≡ is_named false l.ids l.gone x
  unfolding override_names
  named-same = ap (λ (os : List Override). any (λ o. eqb o.id x) os) s.overrides ∙ names_same l.ids l.gone x

  barred-same : override_excludes e x ≡ is_named true l.ids l.gone x
  unfolding override_excludes
  barred-same = ap (λ (os : List Override). any (λ o. o.excluded && eqb o.id x) os) s.overrides ∙ excludes-same l.ids l.gone x

  -- x is in the set that the code keeps exactly when it is in the event's
  pub in-set : is_in l x ≡ in_set e x
  unfolding is_in in_set ruled given
  in-set =
      rw (named-same, barred-same, ruled-same)
      (chain (is_named true l.ids l.gone x) (is_named false l.ids l.gone x) given)
    where
      chain : (a b c : Bool) → (if a then false else if b then true else c) ≡ (not a && (b || c))
      chain true b c = refl
      chain false true c = refl
      chain false false c = refl
