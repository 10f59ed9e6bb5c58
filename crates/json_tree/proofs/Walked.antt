-- In a JSON text a walk over the members of an object does not stop before the object's closing bracket: it ends at
-- the place where the reader of the object ends. So the tree has all members.
use Rattle.std.proofs.Common.{Result, Ok, Err, Option, Some, None}
use Prim.Native.Nat.{ℕ, zero, suc, ◌+◌, ◌≤◌}
use mathlib.Core.List.{List}
use mathlib.Core.Path.{◌≡◌}
use lib.ListN.{length}
use Rattle.json_text.specs.Bytes.{next}
use Rattle.json_text.specs.Strings.{string_at}
use Rattle.json_text.specs.declared.SyntaxError.{SyntaxError}
use Rattle.json_value.specs.Values.{after_at, first_at, colon_at, name_at, next_item, members_at, elements_at, array_of, object_of, value_at, levels}
use Rattle.json_value.specs.Inner.Groups.{object_at, array_at}
use Rattle.json_value.specs.declared.Item.{Item}
use Rattle.json_value.specs.declared.Item.TheVariants.{More, Done}
use Rattle.json_walk.specs.declared.Member.{Member}
use Rattle.json_walk.specs.declared.Element.{Element}
use Rattle.json_walk.specs.Walk.{member_to, member_at, element_to, element_at}
use Rattle.json_value.proofs.Levels.{keeps, levels-stay, object-stays, array-stays}

-- After an item: the closing bracket, which ends at j, or another item from which it goes on well.
abbrev pub EndsItem : (ℕ → Type 0) → ℕ → Result Item SyntaxError → Type 0
EndsItem more j (Ok (More k)) = more k
EndsItem more j (Ok (Done e)) = e ≡ j
EndsItem more j (Err e) = ⊥

-- A walk from a member, and one from an element, that ends at j.
unfoldable pub Ends : ℕ → List ℕ → ℕ → Option Member → Type 0
Ends zero s j step = ⊥
Ends (suc n) s j (Some m) = EndsItem (λ k. Ends n s j (member_at s k)) j (after_at 0x7D s m.after)
Ends (suc n) s j None = ⊥

unfoldable pub Finishes : ℕ → List ℕ → ℕ → Option Element → Type 0
Finishes zero s j step = ⊥
Finishes (suc n) s j (Some e) = EndsItem (λ k. Finishes n s j (element_at s k)) j (after_at 0x5D s e.after)
Finishes (suc n) s j None = ⊥

err-to : {P : Type 0} (e : SyntaxError) (j : ℕ) → ◌≡◌ {A = Result ℕ SyntaxError} (Err e) (Ok j) → P
err-to e j h = cc

item-ends : (P : ℕ → Type 0) (f : ℕ → Result ℕ SyntaxError) (j : ℕ) → ((k : ℕ) → f k ≡ Ok j → P k) → (x : Result Item SyntaxError) → next_item x f ≡ Ok j → EndsItem P j x
item-ends P f j h (Ok (More k)) e = h k e
item-ends P f j h (Ok (Done x)) e = cc
item-ends P f j h (Err x) e = err-to x j e

module _ (s : List ℕ) (j n : ℕ) where
  value-ends : ((k : ℕ) → members_at (λ v. value_at levels s v) n s k ≡ Ok j → Ends n s j (member_at s k))
      → (i q v : ℕ) (r : Result ℕ SyntaxError) → next r (λ e. next_item (after_at 0x7D s e) (λ k. members_at (λ v. value_at levels s v) n s k)) ≡ Ok j
      → Ends (suc n) s j (member_to r (λ e. Some (record { name = i; stop = q; value = v; after = e })))
  unfolding Ends
  value-ends h i q v (Ok e) p = item-ends _ _ j h (after_at 0x7D s e) p
  value-ends h i q v (Err e) p = err-to e j p

  colon-ends : ((k : ℕ) → members_at (λ v. value_at levels s v) n s k ≡ Ok j → Ends n s j (member_at s k))
      → (i q : ℕ) (r : Result ℕ SyntaxError) → next r (λ v. next (value_at levels s v) (λ e. next_item (after_at 0x7D s e) (λ k. members_at (λ v. value_at levels s v) n s k))) ≡ Ok j
      → Ends (suc n) s j (member_to r (λ v. member_to (value_at levels s v) (λ e. Some (record { name = i; stop = q; value = v; after = e }))))
  unfolding Ends
  colon-ends h i q (Ok v) p = value-ends h i q v (value_at levels s v) p
  colon-ends h i q (Err e) p = err-to e j p

  name-ends : ((k : ℕ) → members_at (λ v. value_at levels s v) n s k ≡ Ok j → Ends n s j (member_at s k))
      → (i : ℕ) (r : Result ℕ SyntaxError) → next (next r (λ q. colon_at s q)) (λ v. next (value_at levels s v) (λ e. next_item (after_at 0x7D s e) (λ k. members_at (λ v. value_at levels s v) n s k))) ≡ Ok j
      → Ends (suc n) s j (member_to r (λ q. member_to (colon_at s q) (λ v. member_to (value_at levels s v) (λ e. Some (record { name = i; stop = q; value = v; after = e })))))
  unfolding Ends
  name-ends h i (Ok q) p = colon-ends h i q (colon_at s q) p
  name-ends h i (Err e) p = err-to e j p

  element-ends : ((k : ℕ) → elements_at (λ v. value_at levels s v) n s k ≡ Ok j → Finishes n s j (element_at s k))
      → (i : ℕ) (r : Result ℕ SyntaxError) → next r (λ e. next_item (after_at 0x5D s e) (λ k. elements_at (λ v. value_at levels s v) n s k)) ≡ Ok j
      → Finishes (suc n) s j (element_to r (λ e. Some (record { value = i; after = e })))
  unfolding Finishes
  element-ends h i (Ok e) p = item-ends _ _ j h (after_at 0x5D s e) p
  element-ends h i (Err e) p = err-to e j p

members-end : (n : ℕ) (s : List ℕ) (j i : ℕ) → members_at (λ v. value_at levels s v) n s i ≡ Ok j → Ends n s j (member_at s i)
unfolding members_at member_at name_at
members-end zero s j i p = err-to _ j p
members-end (suc n) s j i p = name-ends s j n (λ k q. members-end n s j k q) i (string_at s i) p

elements-end : (n : ℕ) (s : List ℕ) (j i : ℕ) → elements_at (λ v. value_at levels s v) n s i ≡ Ok j → Finishes n s j (element_at s i)
unfolding elements_at element_at
elements-end zero s j i p = err-to _ j p
elements-end (suc n) s j i p = element-ends s j n (λ k q. elements-end n s j k q) i (value_at levels s i) p

-- An object that the reader reads to j, at any level of a text: the walk over its members ends at j too.
pub object-walked : (l : ℕ) → l ≤ levels → (s : List ℕ) (i j : ℕ) → object_at (suc l) s i ≡ Ok j
    → EndsItem (λ k. Ends (length s) s j (member_at s k)) j (Ok (first_at 0x7D s (i + 1)))
unfolding object_at object_of
object-walked l h s i j e =
    item-ends _ _ j (λ k q. members-end (length s) s j k q) (Ok (first_at 0x7D s (i + 1)))
    (keeps _ _ (object-stays _ _ (λ k. levels-stay l levels h s k) s i) j e)

pub array-walked : (l : ℕ) → l ≤ levels → (s : List ℕ) (i j : ℕ) → array_at (suc l) s i ≡ Ok j
    → EndsItem (λ k. Finishes (length s) s j (element_at s k)) j (Ok (first_at 0x5D s (i + 1)))
unfolding array_at array_of
array-walked l h s i j e =
    item-ends _ _ j (λ k q. elements-end (length s) s j k q) (Ok (first_at 0x5D s (i + 1)))
    (keeps _ _ (array-stays _ _ (λ k. levels-stay l levels h s k) s i) j e)
