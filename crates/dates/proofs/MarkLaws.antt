-- Clearing a run, marking a date-time and marking the overrides.
use Prim.Native.Nat.{ℕ, ◌+◌, ◌-◌, ◌/◌, ◌%◌, ◌<◌, ◌≤◌}
use mathlib.Core.Bool.{Bool, true, false, ◌&&◌, ◌||◌}
use mathlib.Core.List.{List, [], ◌∷◌}
use mathlib.Core.Path.{◌≡◌, refl, sym, ap, ◌∙◌}
use native.Mathlib.Omega.{arith}
use lib.Dec.{eqb}
use lib.ListN.{length, set}
use borrow.Author.Tests.{eq-eqb, ne_eqb}
use Rattle.rule.specs.Gives.{on_day}
use Rattle.track.specs.Inner.Runs.{marked}
use Rattle.track.proofs.RunLaws.{marked-or, marked-same, marked-none, marked-one}
use Rattle.dates.specs.Inner.Overrides.{counts, is_named, is_date, names_day}

-- ---- one date-time

module _ (start x first : ℕ) (value : Bool) (hits : List Bool) where
  never : (counted : Bool) → ((e : ℕ) → first ≤ e → e < first + length hits → x ≡ on_day start e → ⊥) → hits ≡ marked (is_date counted start x) value first hits
  unfolding is_date
  never counted h =
      sym (marked-none (is_date counted start x) value first hits
      (λ e low high. rw (ne_eqb x (on_day start e) (h e low high)) (none counted)))
    where
      none : (b : Bool) → (b && false) ≡ false
      none true = refl
      none false = refl

  pub date-not-counted : hits ≡ marked (is_date false start x) value first hits
  unfolding is_date
  date-not-counted = sym (marked-none (is_date false start x) value first hits (λ e low high. refl))

  pub date-not-timed : (x % 86400 ≡ start % 86400 → ⊥) → hits ≡ marked (is_date true start x) value first hits
  date-not-timed h = never true (λ e low high same. h (omega arith))

  pub date-early : x / 86400 < first → hits ≡ marked (is_date true start x) value first hits
  date-early h = never true (λ e low high same. omega arith)

  pub date-late : length hits ≤ x / 86400 - first → hits ≡ marked (is_date true start x) value first hits
  date-late h = never true (λ e low high same. omega arith)

  pub date-here : x % 86400 ≡ start % 86400 → first ≤ x / 86400 → x / 86400 - first < length hits
      → set hits (x / 86400 - first) value ≡ marked (is_date true start x) value first hits
  unfolding is_date
  date-here timed low high =
      sym (marked-one (is_date true start x) value first hits (x / 86400 - first) high
      (eq-eqb x (on_day start (first + (x / 86400 - first))) (omega arith))
      (λ e other. ne_eqb x (on_day start e) (λ same. other (omega arith))))

-- ---- the overrides, one after the other: those that are left mark here what all of them mark in the run as it was

pub record IdsAt (only : Bool) (ids : List ℕ) (gone : List Bool) (start : ℕ) (value : Bool) (first : ℕ) (before hits : List Bool) (left : List ℕ) (marks : List Bool) : Type 0 where
  pub sizes : length left ≡ length marks
  pub same : marked (names_day only left marks start) value first hits ≡ marked (names_day only ids gone start) value first before

module _ (only : Bool) (ids : List ℕ) (gone : List Bool) (start : ℕ) (value : Bool) (first : ℕ) (before : List Bool) where
  pub ids-go-on : (hits next : List Bool) (i : ℕ) (g : Bool) (left : List ℕ) (marks : List Bool) (counted : Bool)
      → IdsAt only ids gone start value first before hits (i ∷ left) (g ∷ marks)
      → counted ≡ counts only g → next ≡ marked (is_date counted start i) value first hits
      → IdsAt only ids gone start value first before next left marks
  unfolding names_day is_named is_date
  ids-go-on hits next i g left marks counted a is is-next =
      let sizes = a.sizes in
      record {
        sizes = omega arith;
        same =
            ap (marked (names_day only left marks start) value first) is-next
            ∙ (marked-or (is_date counted start i) (names_day only left marks start) value first hits
            ∙ (marked-same _ _ value first hits (λ e. ap (λ (b : Bool). (b && eqb i (on_day start e)) || is_named only left marks (on_day start e)) is)
            ∙ a.same));
      }

  pub ids-end : (hits : List Bool) → IdsAt only ids gone start value first before hits [] []
      → hits ≡ marked (names_day only ids gone start) value first before
  unfolding names_day is_named
  ids-end hits a = sym (marked-none (names_day only [] [] start) value first hits (λ e low high. refl)) ∙ a.same
