-- What is read of a string at a place is what is read of the tree's.
use Rattle.std.specs.Prelude.{if◌then◌else◌}
use Prim.Native.Nat.{ℕ, suc, ◌+◌}
use mathlib.Core.Bool.{Bool, true, false}
use mathlib.Core.List.{List, [], ◌∷◌}
use mathlib.Core.Option.{none, some}
use mathlib.Core.Path.{◌≡◌, refl}
use native.Mathlib.Omega.{arith}
use lib.Dec.{eqb, ltb}
use lib.ListN.{length}
use borrow.Author.Tests.{lt-ltb, eqb-true}
use Rattle.json_text.specs.Bytes.{byte}
use Rattle.json_walk.specs.Strings.{slashed}
use Rattle.json_tree.specs.Tree.{tree_at}
use Rattle.event.specs.Properties.{filled, named}
use Rattle.event.specs.Types.{Text}
use Rattle.event.specs.Reading.{Reading, right, wrong, or_wrong}
use Rattle.event.specs.Values.{of_word}
use Rattle.property.specs.Inner.Words.{word_at, word_fault_at, filled_fault_at}
use Rattle.property.proofs.Words.{string-text}

pub word_read : {A : Type 0} (a : A) (f : List ℕ → Reading A) (l : ℕ) (s : List ℕ) (i : ℕ)
    → of_word a f (tree_at l s i) ≡ (if eqb (word_fault_at s i) 0 then f (word_at s i) else wrong a (word_fault_at s i))
unfolding of_word or_wrong word_fault_at
word_read a f l s i = rw (string-text l s i) (go (eqb (byte s i) 0x22) (slashed (word_at s i)) refl)
  where
    go : (q c : Bool) → slashed (word_at s i) ≡ c
        → or_wrong a 20 (λ (t : Text). if slashed t.raw then wrong a 26 else f t.raw) (if q then some (record { at = i + 1; raw = word_at s i }) else none)
        ≡ (if eqb (if q then (if slashed (word_at s i) then 26 else 0) else 20) 0 then f (word_at s i) else wrong a (if q then (if slashed (word_at s i) then 26 else 0) else 20))
    go true true e = rw e
    go true false e = rw e
    go false c e = refl

-- A name that has bytes, and one that has none.
filled-read : (raw : List ℕ) → filled raw ≡ (if ltb 0 (length raw) then right raw else wrong [] 26)
unfolding filled
filled-read [] = refl
filled-read (b ∷ raw) = rw (lt-ltb 0 (suc (length raw)) (omega arith))

named-read : (raw : List ℕ) → named raw ≡ (if ltb 0 (length raw) then right (some raw) else wrong none 26)
unfolding named
named-read [] = refl
named-read (b ∷ raw) = rw (lt-ltb 0 (suc (length raw)) (omega arith))

name-read : {A : Type 0} (a : A) (f g : List ℕ → Reading A) → ((raw : List ℕ) → f raw ≡ (if ltb 0 (length raw) then g raw else wrong a 26)) → (l : ℕ) (s : List ℕ) (i : ℕ)
    → of_word a f (tree_at l s i) ≡ (if eqb (filled_fault_at s i) 0 then g (word_at s i) else wrong a (filled_fault_at s i))
unfolding filled_fault_at
name-read a f g h l s i = rw (word_read a f l s i, h (word_at s i)) (go (word_fault_at s i) (eqb (word_fault_at s i) 0) refl (ltb 0 (length (word_at s i))))
  where
    go : (n : ℕ) (c : Bool) → eqb n 0 ≡ c → (d : Bool) → (if c then (if d then g (word_at s i) else wrong a 26) else wrong a n)
        ≡ (if eqb (if c then (if d then 0 else 26) else n) 0 then g (word_at s i) else wrong a (if c then (if d then 0 else 26) else n))
    go n true e true = refl
    go n true e false = refl
    go n false e d = rw e

pub uid-read : (l : ℕ) (s : List ℕ) (i : ℕ) → of_word [] filled (tree_at l s i) ≡ (if eqb (filled_fault_at s i) 0 then right (word_at s i) else wrong [] (filled_fault_at s i))
uid-read l s i = name-read [] filled right filled-read l s i

pub uid-fault : (l : ℕ) (s : List ℕ) (i : ℕ) → filled_fault_at s i ≡ (of_word [] filled (tree_at l s i)).fault
uid-fault l s i = rw (uid-read l s i) (go (filled_fault_at s i) (eqb (filled_fault_at s i) 0) refl)
  where
    go : (n : ℕ) (c : Bool) → eqb n 0 ≡ c → n ≡ (if c then right (word_at s i) else wrong [] n).fault
    go n true e = eqb-true n 0 e
    go n false e = refl

pub zone-read : (l : ℕ) (s : List ℕ) (i : ℕ) → of_word none named (tree_at l s i) ≡ (if eqb (filled_fault_at s i) 0 then right (some (word_at s i)) else wrong none (filled_fault_at s i))
zone-read l s i = name-read none named (λ raw. right (some raw)) named-read l s i
