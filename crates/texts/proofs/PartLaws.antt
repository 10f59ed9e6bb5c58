-- The place of a text by how many bytes it has.
use Rattle.std.specs.Prelude.{if◌then◌else◌}
use Prim.Native.Nat.{ℕ, zero, suc, ◌+◌, ◌-◌, ◌≤◌}
use mathlib.Core.Bool.{Bool, true, false}
use mathlib.Core.List.{List, []}
use mathlib.Core.Path.{◌≡◌, refl, ap, sym, subst, ◌∙◌}
use native.Mathlib.Omega.{arith}
use lib.ListN.{length}
use borrow.Author.Tests.{ne_eqb}
use Rattle.json_walk.specs.Strings.{bytes_at, raw_at}
use Rattle.call_definitions.specs.Call.{Shown, no_place, place_from}
use Rattle.texts.specs.Inner.Shown.{spanned, Placed}

bytes-length : (n : ℕ) (s : List ℕ) (i : ℕ) → length (bytes_at n s i) ≡ n
unfolding bytes_at
bytes-length zero s i = refl
bytes-length (suc n) s i = ap suc (bytes-length n s (i + 1))

bytes-place : (n : ℕ) (s : List ℕ) (i at : ℕ) → place_from at (bytes_at n s i) ≡ spanned at n
unfolding bytes_at place_from spanned
bytes-place zero s i at = refl
bytes-place (suc n) s i at = rw (bytes-length n s (i + 1), ne_eqb (suc n) 0 (λ e. absurd (omega arith)))

-- A part was made from one place to before another, in a text of so many bytes.
span-within : (at n size : ℕ) → at + n ≤ size → (spanned at n).start + (spanned at n).length ≤ size
unfolding spanned
span-within at zero size h = omega arith
span-within at (suc n) size h = rw (ne_eqb (suc n) 0 (λ e. absurd (omega arith))) h

module _ (size from to : ℕ) (order : from ≤ to) (inside : to ≤ size) (r : Shown) (is : r ≡ spanned from (to - from)) where
  placed : (o : Shown) → o ≡ spanned from (to - from) → Placed size o r
  placed o e =
      record { is = is ∙ sym e; within = subst (λ (u : Shown). u.start + u.length ≤ size) (sym is) (span-within from (to - from) size (omega arith)) }

-- The bytes between the quotes at `at` and before `stop`.
raw-place : (s : List ℕ) (at stop : ℕ) → place_from (at + 1) (raw_at s at stop) ≡ spanned (at + 1) (stop - 1 - (at + 1))
unfolding raw_at
raw-place s at stop =
    let n : stop - at - 2 ≡ stop - 1 - (at + 1) = omega arith in
    bytes-place (stop - at - 2) s (at + 1) (at + 1) ∙ ap (spanned (at + 1)) n

pub raw-placed : (s : List ℕ) (at stop : ℕ) → at + 2 ≤ stop → stop ≤ length s → (r : Shown) → r ≡ spanned (at + 1) (stop - 1 - (at + 1)) → Placed (length s) (place_from (at + 1) (raw_at s at stop)) r
raw-placed s at stop order inside r is = placed (length s) (at + 1) (stop - 1) (omega arith) (omega arith) r is _ (raw-place s at stop)

pub none-placed : (size : ℕ) (o r : Shown) → r ≡ spanned 0 0 → o ≡ no_place 0 → Placed size o r
unfolding spanned
none-placed size o r is e = placed size 0 0 (omega arith) (omega arith) r is o e

pub no_bytes : (at : ℕ) → place_from at [] ≡ no_place 0
unfolding place_from
no_bytes at = refl

pub empty-placed : (size answer : ℕ) → Placed size (no_place answer) (no_place answer)
empty-placed size answer = record { is = refl; within = omega arith }

pub placed_same : (size : ℕ) (o u : Shown) → o ≡ u → (r : Shown) → Placed size o r → Placed size u r
placed_same size o u e r p = record { is = p.is ∙ e; within = p.within }

-- Only a public event shows what was found.
pub visible-placed : (size : ℕ) (o q : Shown) → Placed size o q → (all : Bool) (r : Shown) → r ≡ (if all then q else no_place 0) → Placed size (if all then o else no_place 0) r
visible-placed size o q p true r e = record { is = e ∙ p.is; within = subst (λ (u : Shown). u.start + u.length ≤ size) (sym e) p.within }
visible-placed size o q p false r e = record { is = e; within = subst (λ (u : Shown). u.start + u.length ≤ size) (sym e) (omega arith) }
