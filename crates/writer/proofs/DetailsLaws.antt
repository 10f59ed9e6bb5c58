-- The details of an occurrence: by the override that names it, found by going through the ids.
use Rattle.std.specs.Prelude.{if◌then◌else◌, Some, None}
use Prim.Native.Nat.{ℕ, zero, suc, ◌+◌, ◌<◌, ◌≤◌}
use mathlib.Core.Bool.{Bool, true, false}
use mathlib.Core.List.{List, [], ◌∷◌}
use mathlib.Core.Path.{◌≡◌, refl, sym, ap, subst, ◌∙◌}
use native.Mathlib.Numerals.{add-one}
use native.Mathlib.Omega.{arith}
use lib.ListN.{length, get_or, drop, drop_of_length-le}
use lib.Seq.{drop-cons}
use lib.Dec.{eqb}
use borrow.Author.Tests.{eq-eqb, ne_eqb, eqb-true}
use Rattle.event.specs.Types.{Details, Override}
use Rattle.call_definitions.specs.Occurrence.{with_start}
use Rattle.override_text.specs.declared.Patch.{Patch}
use Rattle.override_text.specs.declared.Own.{Own}
use Rattle.override_text.specs.Inner.Meaning.{details_in, override_in}
use Rattle.override_text.specs.Inner.Patched.{patch_at}
use Rattle.record.specs.Inner.Utc.{times_of}
use Rattle.writer.specs.Inner.Details.{patch_details, details_by, patch_of, Passed, times_from, patch_times}

-- ---- a patch that was read

pub patch-times : (s : List ℕ) (own : Details) (at id : ℕ) (p : Patch) (floating : Bool) → override_in s id p ≡ (patch_at 13 own id s at).value
    → record { start = p.start; days = p.days; seconds = p.seconds; busy = p.busy; allday = p.allday; floating = floating }
    ≡ patch_times floating own s at id
unfolding patch_times times_of
patch-times s own at id p floating e = ap (λ (r : Override). times_of floating r.details) e

-- ---- the loop that looks for the override

abbrev pub Seen : List ℕ → List ℕ → ℕ → ℕ → Type 0
Seen ids places x i = (i ≤ length ids) × (patch_of (drop i ids) (drop i places) x ≡ patch_of ids places x)

module _ (ids places : List ℕ) (even : length ids ≡ length places) (x : ℕ) where
  one : (i : ℕ) → i < length ids
      → patch_of (drop i ids) (drop i places) x ≡ (if eqb (get_or ids i 0) x then Some (get_or places i 0) else patch_of (drop (suc i) ids) (drop (suc i) places) x)
  unfolding patch_of
  one i h = rw (drop-cons ids i 0 h, drop-cons places i 0 (omega arith))

  pub seen_here : (i : ℕ) → i < length ids → Seen ids places x i → get_or ids i 0 ≡ x → Some (get_or places i 0) ≡ patch_of ids places x
  seen_here i h seen e = sym (rw (eq-eqb (get_or ids i 0) x e) at (one i h)) ∙ seen.1

  pub seen_next : (i : ℕ) → i < length ids → Seen ids places x i → (get_or ids i 0 ≡ x → ⊥) → Seen ids places x (i + 1)
  seen_next i h seen differ = (omega arith, rw (add-one i) (sym (rw (ne_eqb (get_or ids i 0) x differ) at (one i h)) ∙ seen.1))

  pub seen-passed : (r : ℕ) → Passed ids x r → Seen ids places x r
  seen-passed zero p = (omega arith, refl)
  seen-passed (suc r) p =
      let here : r + 1 ≡ suc r = omega arith in
      let before : Passed ids x r = record { within = omega (arith, p.within); other = λ j h. p.other j (omega arith) } in
      subst (Seen ids places x) here (seen_next r (omega (arith, p.within)) (seen-passed r before) (p.other r (omega arith)))

  pub seen_none : (i : ℕ) → length ids ≤ i → Seen ids places x i → None ≡ patch_of ids places x
  unfolding patch_of
  seen_none i h seen =
      let empty : drop i ids ≡ [] = drop_of_length-le ids h in
      let nothing : patch_of (drop i ids) (drop i places) x ≡ None = rw empty refl in
      sym nothing ∙ seen.1

-- ---- the details, by the patch that was found

module _ (s : List ℕ) (own : Details) (x : ℕ) where
  pub details-patched : (ids places : List ℕ) (at : ℕ) → Some at ≡ patch_of ids places x → patch_details own s at x ≡ details_by s own ids places x
  unfolding patch_of details_by
  details-patched [] places at e = cc
  details-patched (i ∷ ids) [] at e = cc
  details-patched (i ∷ ids) (p ∷ places) at e = go (details-patched ids places at) (eqb i x) refl e
    where
      go : (Some at ≡ patch_of ids places x → patch_details own s at x ≡ details_by s own ids places x)
          → (b : Bool) → eqb i x ≡ b → Some at ≡ (if b then Some p else patch_of ids places x)
          → patch_details own s at x ≡ (if b then patch_details own s p i else details_by s own ids places x)
      go later true t f = let same : i ≡ x = eqb-true i x t in cc
      go later false t f = later f

  pub details-own : (ids places : List ℕ) → None ≡ patch_of ids places x → with_start own x ≡ details_by s own ids places x
  unfolding patch_of details_by
  details-own [] places e = refl
  details-own (i ∷ ids) [] e = refl
  details-own (i ∷ ids) (p ∷ places) e = go (details-own ids places) (eqb i x) e
    where
      go : (None ≡ patch_of ids places x → with_start own x ≡ details_by s own ids places x)
          → (b : Bool) → None ≡ (if b then Some p else patch_of ids places x) → with_start own x ≡ (if b then patch_details own s p i else details_by s own ids places x)
      go later true f = cc
      go later false f = later f

-- ---- the times of an occurrence

module _ (s : List ℕ) (own : Own) (floating : Bool) (ids places : List ℕ) (x : ℕ) where
  pub times-patched : (at : ℕ) → Some at ≡ patch_of ids places x
      → patch_times floating (details_in s own) s at x ≡ times_of floating (details_by s (details_in s own) ids places x)
  unfolding patch_times
  times-patched at e = ap (times_of floating) (details-patched s (details_in s own) x ids places at e)

  pub times-own : None ≡ patch_of ids places x → times_from own floating x ≡ times_of floating (details_by s (details_in s own) ids places x)
  unfolding times_of with_start
  times-own e = ap (times_of floating) (details-own s (details_in s own) x ids places e)
