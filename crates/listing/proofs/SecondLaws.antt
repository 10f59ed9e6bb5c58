-- The date-times of an event with one rule, from the list of its days.
use Rattle.std.specs.Prelude.{if◌then◌else◌}
use Prim.Native.Nat.{ℕ, zero, suc, ◌+◌, ◌-◌, ◌*◌, ◌/◌, ◌%◌, ◌<◌, ◌≤◌}
use mathlib.Core.Bool.{Bool, true, false, ◌||◌}
use mathlib.Core.List.{List, [], ◌∷◌, ◌++◌, map}
use mathlib.Core.Path.{◌≡◌, refl, ap, ◌∙◌, subst}
use native.Mathlib.Omega.{arith}
use lib.Dec.{eqb, ltb}
use lib.ListN.{length, take, get_or}
use borrow.Author.Tests.{ltb-true, ltb-false, eqb-true, eq-eqb}
use Rattle.rule.specs.Gives.{on_day}
use Rattle.rule.proofs.Bools.{by}
use Rattle.matcher.specs.Inner.Layout.{row_size}
use Rattle.track.specs.declared.Track.{Track}
use Rattle.track.specs.Inner.Runs.{has_day}
use Rattle.dates.specs.declared.Tracks.{Tracks}
use Rattle.dates.specs.Inner.Tracked.{some_has, tracks_of}
use Rattle.dates.specs.Inner.Overrides.{is_named}
use Rattle.dates.specs.Inner.Loaded.{loaded, by_rules, is_in}
use Rattle.window.specs.Inner.Lists.{list_in}
use Rattle.window.proofs.HitLaws.{FromDay}
use Rattle.window.proofs.ListLaws.{list-split, list-nothing}
use Rattle.listing.specs.Inner.Lists.{start_or}

-- ---- seconds by their days

module _ (start : ℕ) (p q : ℕ → Bool) (timed : (x : ℕ) → p x ≡ (if eqb (x % 86400) (start % 86400) then q (x / 86400) else false)) where
  quiet : (at day j : ℕ) → FromDay start at day → at ≤ j → j < on_day start day → p j ≡ false
  quiet at day j f below above =
      timed j
      ∙ by (eqb (j % 86400) (start % 86400))
      (λ e.
      let same = eqb-true (j % 86400) (start % 86400) e in
      let early = f.earliest (j / 86400) (omega arith) in
      absurd (omega arith))
      (λ e. rw e)

  here : (day : ℕ) → p (on_day start day) ≡ q day
  here day =
      let same : (86400 * day + start % 86400) % 86400 ≡ start % 86400 = omega arith in
      let on : (86400 * day + start % 86400) / 86400 ≡ day = omega arith in
      timed (on_day start day) ∙ rw (eq-eqb ((86400 * day + start % 86400) % 86400) (start % 86400) same, on)

  one-first : (day n m : ℕ) → list_in p (suc (on_day start day)) m ≡ map (on_day start) (list_in q (suc day) n)
      → list_in p (on_day start day) (suc m) ≡ map (on_day start) (list_in q day (suc n))
  unfolding list_in
  one-first day n m later = rw (here day) (go (q day))
    where
      go : (b : Bool) → (if b then on_day start day ∷ list_in p (suc (on_day start day)) m else list_in p (suc (on_day start day)) m)
          ≡ map (on_day start) (if b then day ∷ list_in q (suc day) n else list_in q (suc day) n)
      go true = ap (λ (l : List ℕ). on_day start day ∷ l) later
      go false = later

  nothing : (day : ℕ) → [] ≡ map (on_day start) (list_in q day 0)
  unfolding list_in
  nothing day = refl

  pub days-listed : (n at to day : ℕ) → at ≤ to → FromDay start at day → FromDay start to (day + n) → list_in p at (to - at) ≡ map (on_day start) (list_in q day n)
  days-listed zero at to day order f g =
      let reached = g.reached in
      list-nothing p at (to - at) (λ j below above. quiet at day j f below (omega arith)) ∙ nothing day
  days-listed (suc n) at to day order f g =
      let x = on_day start day in
      let reached : at ≤ x = f.reached in
      let early : x < to = by (ltb x to) (λ e. ltb-true x to e) (λ e. absurd (omega (arith, g.earliest day (ltb-false x to e)))) in
      let parts : to - at ≡ (x - at) + suc (to - suc x) = omega arith in
      let there : at + (x - at) ≡ x = omega arith in
      let later : list_in p (suc x) (to - suc x) ≡ map (on_day start) (list_in q (suc day) n) =
      days-listed n (suc x) to (suc day) (omega arith)
      (record { reached = omega arith; earliest = λ d h. omega arith; close = omega arith })
      (subst (FromDay start to) (omega arith) g)
      in
      ap (list_in p at) parts
      ∙ (list-split p at (x - at) (suc (to - suc x))
      ∙ (ap (λ (l : List ℕ). l ++ list_in p (at + (x - at)) (suc (to - suc x))) (list-nothing p at (x - at) (λ j below above. quiet at day j f below (omega arith)))
      ∙ (ap (λ (k : ℕ). list_in p k (suc (to - suc x))) there ∙ one-first day n (to - suc x) later)))

-- ---- one rule, none excluded, no override

none_named : (only : Bool) (ids : List ℕ) (gone : List Bool) (x : ℕ) → length ids ≡ 0 → is_named only ids gone x ≡ false
unfolding is_named
none_named only [] gone x h = refl
none_named only (i ∷ ids) gone x h = absurd (omega arith)

module _ (start : ℕ) (rules : Tracks) (rule_flags : List Bool) (excluded : Tracks) (excluded_flags : List Bool) (ids : List ℕ) (gone : List Bool)
    (one : rules.count ≡ 1) (none : excluded.count ≡ 0) (few : length ids ≡ 0) (default : Track) (whole : 1 ≤ length rules.list) where
  abbrev pub rule : Track
  rule = get_or rules.list 0 default

  only-rule : tracks_of rules ≡ rule ∷ []
  only-rule = ap (λ (n : ℕ). take n rules.list) one ∙ go rules.list whole
    where
      go : (l : List Track) → 1 ≤ length l → take 1 l ≡ get_or l 0 default ∷ []
      go [] h = absurd (omega arith)
      go (t ∷ l) h = refl

  no-rule : tracks_of excluded ≡ []
  no-rule = ap (λ (n : ℕ). take n excluded.list) none

  by-rule : (d : ℕ) → by_rules (loaded start rules rule_flags excluded excluded_flags ids gone) d ≡ start_or rule (take row_size rule_flags) (start / 86400) d
  unfolding by_rules some_has start_or
  by-rule d = rw (only-rule, no-rule) (go (eqb d (start / 86400)) (has_day rule (take row_size rule_flags) (start / 86400) d))
    where
      go : (a b : Bool) → (if a then true else (b || false)) ≡ (if a then true else b)
      go true b = refl
      go false true = refl
      go false false = refl

  pub timed : (x : ℕ) → is_in (loaded start rules rule_flags excluded excluded_flags ids gone) x
      ≡ (if eqb (x % 86400) (start % 86400) then start_or rule (take row_size rule_flags) (start / 86400) (x / 86400) else false)
  unfolding is_in
  timed x = rw (none_named true ids gone x few, none_named false ids gone x few, by-rule (x / 86400))
