-- Laws of a table of ends: what it says, and the setting of an entry.
use Rattle.std.proofs.Common.{Result, Ok, Err}
use Prim.Native.Nat.{ℕ, zero, suc, ◌+◌, ◌-◌, ◌*◌, ◌/◌, ◌%◌, ◌≤◌, ◌<◌}
use mathlib.Core.Bool.{Bool, true, false}
use mathlib.Core.List.{List}
use mathlib.Core.Path.{◌≡◌, refl, sym, ◌∙◌, subst}
use native.Mathlib.Omega.{arith}
use lib.ListN.{length, get_or, set, replicate}
use lib.Seq.{get_or-set_same, get_or-set_other}
use lib.Dec.{eqb}
use borrow.Author.Tests.{eqb-true, eqb-false}
use Rattle.json_text.specs.declared.SyntaxError.{SyntaxError}
use Rattle.json_text.specs.declared.SyntaxError.TheVariants.{Malformed}
use Rattle.json_text.specs.Strings.{string_at}
use Rattle.json_text.specs.Words.{scalar_at}
use Rattle.json_text.specs.Bytes.{next}
use Rattle.json_value.specs.Values.{value_at, value_of, name_at, next_item, after_at, elements_at, members_at}
use Rattle.json_value.proofs.Laws.{value-step, elements-step, elements-none, members_step, members-none}
use Rattle.json_value.proofs.Levels.{more-levels}
use Rattle.json_ends.specs.Inner.Ends.{Ends}
use Rattle.json_ends.specs.Inner.Told.{told}
use Rattle.json_ends.specs.declared.read.Reading.{Reading}
use Rattle.json_ends.specs.declared.read.Reading.TheVariants.{To, Bad, Deep}

-- What the table says of a place holds where more levels may be opened.
pub ends-say : (s t : List ℕ) → Ends s t → (i l e j m : ℕ) → e ≡ get_or t i 0 → j ≡ e / 32 → m ≡ e % 32 → 32 ≤ e → m ≤ l → Ok j ≡ value_at l s i
unfolding Ends
ends-say s t h i l e j m p q r a b =
    rw (q, p) (sym (more-levels (get_or t i 0 % 32) l (rw (r, p) at b) s i _ (h i (rw p at a))))

-- A new entry at j that is true, or says nothing.
ends_set : (s t : List ℕ) (j v : ℕ) → j < length t → Ends s t → (32 ≤ v → value_at (v % 32) s j ≡ Ok (v / 32)) → Ends s (set t j v)
unfolding Ends
ends_set s t j v p h q i = go (eqb j i) refl
  where
    go : (b : Bool) → eqb j i ≡ b → 32 ≤ get_or (set t j v) i 0 → value_at (get_or (set t j v) i 0 % 32) s i ≡ Ok (get_or (set t j v) i 0 / 32)
    go true e =
        let f : j ≡ i = eqb-true j i e in
        rw (← f, get_or-set_same t j v 0 p) q
    go false e = rw (get_or-set_other t j i v 0 (λ f. eqb-false j i e (sym f))) (h i)

-- The end of a value, and the levels that it was read with.
pub ends-keep : (s t : List ℕ) (j l e : ℕ) → j < length t → l < 32 → value_at l s j ≡ Ok e → Ends s t → Ends s (set t j (e * 32 + l))
ends-keep s t j l e p q v h = ends_set s t j (e * 32 + l) p h (λ r. rw (rest, whole) v)
  where
    rest : (e * 32 + l) % 32 ≡ l
    rest = omega arith

    whole : (e * 32 + l) / 32 ≡ e
    whole = omega arith

-- A table of zeros says nothing.
abbrev none : ℕ
none = 0

zeros : (n i : ℕ) → get_or (replicate n none) i none ≡ none
zeros zero i = refl
zeros (suc n) zero = refl
zeros (suc n) (suc i) = zeros n i

pub ends-none : (s : List ℕ) (n : ℕ) → Ends s (replicate n 0)
unfolding Ends
ends-none s n i h = let z : get_or (replicate n none) i none ≡ none = zeros n i in absurd (omega arith)

-- A string is a value, however many levels may be opened.
string-value : (l : ℕ) (s : List ℕ) (i : ℕ) → get_or s i 0 ≡ 0x22 → value_at l s i ≡ string_at s i
unfolding value_of scalar_at
string-value l s i e = rw (value-step, e)

not-to : {P : Type 0} (e : ℕ) → ◌≡◌ {A = Result ℕ SyntaxError} (Err Malformed) (Ok e) → P
not-to e h = cc

unquoted : (s : List ℕ) (i : ℕ) → eqb (get_or s i 0) 0x22 ≡ false → string_at s i ≡ Err Malformed
unfolding string_at
unquoted s i b = rw b

pub string-kept : (l : ℕ) (s : List ℕ) (i e : ℕ) → string_at s i ≡ Ok e → value_at l s i ≡ Ok e
string-kept l s i e h = go (eqb (get_or s i 0) 0x22) refl
  where
    go : (b : Bool) → eqb (get_or s i 0) 0x22 ≡ b → value_at l s i ≡ Ok e
    go true b = string-value l s i (eqb-true _ _ b) ∙ h
    go false b = not-to e (sym (unquoted s i b) ∙ h)

-- What the table says of a place with a quote holds of the string there.
pub strings-say : (s t : List ℕ) → Ends s t → (i q e j : ℕ) → q ≡ get_or s i 0 → q ≡ 0x22 → e ≡ get_or t i 0 → j ≡ e / 32 → 32 ≤ e → Ok j ≡ string_at s i
unfolding Ends
strings-say s t h i q e j a b p r m =
    rw (r, p) (sym (h i (rw p at m)) ∙ string-value (get_or t i 0 % 32) s i (sym a ∙ b))

-- A loop that counts up to n: one turn of it when k elements or members were read, and its end.
pub elements-turn : (n k : ℕ) → k < n → (value : ℕ → Result ℕ SyntaxError) (s : List ℕ) (i : ℕ)
    → elements_at value (n - k) s i ≡ next (value i) (λ j. next_item (after_at 0x5D s j) (λ m. elements_at value (n - (k + 1)) s m))
elements-turn n k h value s i =
    let e : n - k - 1 ≡ n - (k + 1) = omega arith in
    subst (λ (m : ℕ). elements_at value (n - k) s i ≡ next (value i) (λ j. next_item (after_at 0x5D s j) (λ p. elements_at value m s p)))
    e (elements-step (n - k) (omega arith) value s i)

pub members-turn : (n k : ℕ) → k < n → (value : ℕ → Result ℕ SyntaxError) (s : List ℕ) (i : ℕ)
    → members_at value (n - k) s i
    ≡ next (name_at s i) (λ v. next (value v) (λ j. next_item (after_at 0x7D s j) (λ m. members_at value (n - (k + 1)) s m)))
members-turn n k h value s i =
    let e : n - k - 1 ≡ n - (k + 1) = omega arith in
    subst (λ (m : ℕ). members_at value (n - k) s i ≡ next (name_at s i) (λ v. next (value v) (λ j. next_item (after_at 0x7D s j) (λ p. members_at value m s p))))
    e (members_step (n - k) (omega arith) value s i)

pub elements-over : (n k : ℕ) → n ≤ k → (value : ℕ → Result ℕ SyntaxError) (s : List ℕ) (i : ℕ) → elements_at value (n - k) s i ≡ Err Malformed
elements-over n k h = elements-none (n - k) (omega arith)

pub members-over : (n k : ℕ) → n ≤ k → (value : ℕ → Result ℕ SyntaxError) (s : List ℕ) (i : ℕ) → members_at value (n - k) s i ≡ Err Malformed
members-over n k h = members-none (n - k) (omega arith)

-- A reading that is no end is handed on as it is.
pub wrong-stays : (r : Reading) → ((e : ℕ) → r ≡ To e → ⊥) → (f : ℕ → Result ℕ SyntaxError) → told r ≡ next (told r) f
wrong-stays (To e) h f = absurd (h e refl)
wrong-stays Bad h f = refl
wrong-stays Deep h f = refl
