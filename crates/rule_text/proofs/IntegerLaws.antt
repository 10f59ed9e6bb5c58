-- An integer of the tree is the one that is read at its place, whatever stands there.
use Rattle.std.specs.Prelude.{if◌then◌else◌}
use Prim.Native.Nat.{ℕ, zero, suc, ◌≤◌}
use mathlib.Core.Bool.{Bool, true, false, ◌&&◌}
use mathlib.Core.List.{List}
use mathlib.Core.Option.{Option, none, some}
use mathlib.Core.Path.{◌≡◌, refl, ◌∙◌}
use native.Mathlib.Omega.{arith}
use lib.Dec.{eqb, leb}
use lib.IntN.{ℤ, pos, negsuc, nat_abs, sub_ℕ}
use borrow.Author.Tests.{eqb-true, ne_eqb, leb-true, lt-ltb}
use Rattle.signed.proofs.Parts.{parts-eq, subℕ-parts, subℕ-pos, subℕ-neg}
use Rattle.rule.specs.Inner.Read.{nth_from}
use Rattle.json_text.specs.Bytes.{byte, is_digit}
use Rattle.json_tree.specs.Tree.{Json, Fields, Items, tree_by, tree_at, scalar_tree}
use Rattle.json_tree.specs.Integers.{integer_at, whole_at}
use Rattle.json_tree.specs.Inner.Kinds.{kind_at}
use Rattle.json_tree.specs.declared.Kind.{Kind}
use Rattle.json_tree.specs.declared.Integer.{Integer}
use Rattle.std.specs.Prelude as std
use Rattle.event.specs.Values.{of_integer, number, as_integer, sized}
use Rattle.event.specs.Reading.{Reading, right, wrong, or_wrong}
use Rattle.event.specs.Rules.{at_least_one, read_count, signed_up_to, read_signed}
use Rattle.rule_text.specs.Inner.Bounds.{SizeIn}
use Rattle.rule_text.specs.Inner.Reads.{no_integer, no_integer_at}

-- No integer begins with this byte.
other : (s : List ℕ) (i k : ℕ) → eqb k 0x2D ≡ false → is_digit k ≡ false → eqb (byte s i) k ≡ true → integer_at s i ≡ std.None
unfolding integer_at whole_at
other s i k p q e = rw (eqb-true (byte s i) k e, p, q)

module _ {B : Type 0} (b : B) (f : ℤ → Reading B) (s : List ℕ) (i : ℕ) where
  -- A value that begins with such a byte is none, and any other is by the tests that follow.
  apart : (k : ℕ) → eqb k 0x2D ≡ false → is_digit k ≡ false → (v w : Json) (m n : Kind) → of_integer b f v ≡ wrong b 20 → no_integer m ≡ 20
      → of_integer b f w ≡ or_wrong b (no_integer n) f (as_integer (integer_at s i))
      → (t : Bool) → eqb (byte s i) k ≡ t → of_integer b f (if t then v else w) ≡ or_wrong b (no_integer (if t then m else n)) f (as_integer (integer_at s i))
  unfolding or_wrong
  apart k p q v w m n x y r true e = rw (other s i k p q e, x, y)
  apart k p q v w m n x y r false e = r

  integer-by : (fields : Fields) (items : Items) → of_integer b f (tree_by fields items s i) ≡ or_wrong b (no_integer_at s i) f (as_integer (integer_at s i))
  unfolding tree_by scalar_tree kind_at is_digit of_integer or_wrong
  integer-by fields items =
      apart 0x7B refl refl _ _ _ _ refl refl
      (apart 0x5B refl refl _ _ _ _ refl refl
      (apart 0x22 refl refl _ _ _ _ refl refl
      (apart 0x66 refl refl _ _ _ _ refl refl (apart 0x6E refl refl _ _ _ _ refl refl (apart 0x74 refl refl _ _ _ _ refl refl refl _ refl) _ refl) _ refl)
      _
      refl)
      _
      refl)
      _
      refl

  integer-at : (l : ℕ) → of_integer b f (tree_at l s i) ≡ or_wrong b (no_integer_at s i) f (as_integer (integer_at s i))
  unfolding tree_at
  integer-at zero = integer-by _ _
  integer-at (suc l) = integer-by _ _

-- The same readings by sign and size, in the order in which the code asks. k is the fault of what is no integer.
abbrev pub count_by : Bool → ℕ → Reading ℕ
count_by true n = wrong 1 23
count_by false n = if eqb n 0 then wrong 1 23 else right n

abbrev pub count_of : ℕ → std.Option Integer → Reading ℕ
count_of k std.None = wrong 1 k
count_of k (std.Some x) = count_by x.negative x.size

abbrev pub signed_by : ℕ → Bool → ℕ → Reading ℤ
signed_by most below n = if leb 1 n && leb n most then right (if below then sub_ℕ 0 n else sub_ℕ n 0) else wrong (pos 1) 23

abbrev pub signed_of : ℕ → ℕ → std.Option Integer → Reading ℤ
signed_of k most std.None = wrong (pos 1) k
signed_of k most (std.Some x) = signed_by most x.negative x.size

count-of : (k : ℕ) (x : std.Option Integer) → or_wrong 1 k at_least_one (as_integer x) ≡ count_of k x
unfolding or_wrong at_least_one
count-of k std.None = refl
count-of k (std.Some x) = go x.negative x.size
  where
    go : (below : Bool) (n : ℕ) → at_least_one (sized below n) ≡ count_by below n
    go true zero = refl
    go true (suc n) = refl
    go false zero = refl
    go false (suc n) = rw (ne_eqb (suc n) 0 (λ e. omega arith))

below : (n : ℕ) → sub_ℕ 0 (suc n) ≡ negsuc n
below n = parts-eq _ _ (omega (arith, subℕ-parts 0 (suc n), subℕ-pos 0 (suc n)))

above : (n : ℕ) → sub_ℕ (suc n) 0 ≡ pos (suc n)
above n = parts-eq _ _ (omega (arith, subℕ-parts (suc n) 0, subℕ-neg (suc n) 0))

signed-of : (k most : ℕ) (x : std.Option Integer) → or_wrong (pos 1) k (signed_up_to most) (as_integer x) ≡ signed_of k most x
unfolding or_wrong signed_up_to
signed-of k most std.None = refl
signed-of k most (std.Some x) = go x.negative x.size
  where
    go : (b : Bool) (n : ℕ) → signed_up_to most (sized b n) ≡ signed_by most b n
    go true zero = refl
    go true (suc n) = rw below
    go false zero = refl
    go false (suc n) = rw above

pub count_at : (l : ℕ) (s : List ℕ) (i : ℕ) → read_count (tree_at l s i) ≡ count_of (no_integer_at s i) (integer_at s i)
unfolding read_count
count_at l s i = integer-at 1 at_least_one s i l ∙ count-of (no_integer_at s i) (integer_at s i)

pub signed-at : (most l : ℕ) (s : List ℕ) (i : ℕ) → read_signed most (tree_at l s i) ≡ signed_of (no_integer_at s i) most (integer_at s i)
unfolding read_signed
signed-at most l s i = integer-at (pos 1) (signed_up_to most) s i l ∙ signed-of (no_integer_at s i) most (integer_at s i)

-- A signed number that was read is not 0, and no larger than it may be, also one that stands in.
signed_range : (most : ℕ) → 1 ≤ most → (z : ℤ) (c d : Bool) → leb 1 (nat_abs z) ≡ c → leb (nat_abs z) most ≡ d → SizeIn most (if c && d then right z else wrong (pos 1) 23).value
signed_range most h z true true p q = (leb-true 1 (nat_abs z) p, leb-true (nat_abs z) most q)
signed_range most h z true false p q = (omega arith, omega arith)
signed_range most h z false d p q = (omega arith, omega arith)

judged : (most : ℕ) → 1 ≤ most → (k : ℕ) (z : Option ℤ) → SizeIn most (or_wrong (pos 1) k (signed_up_to most) z).value
unfolding or_wrong signed_up_to
judged most h k none = (omega arith, omega arith)
judged most h k (some z) = signed_range most h z _ _ refl refl

pub signed-within : (most : ℕ) → 1 ≤ most → (v : Json) → SizeIn most (read_signed most v).value
unfolding read_signed of_integer or_wrong
signed-within most h v = go (number v)
  where
    go : (n : Option (std.Option Integer)) → SizeIn most (or_wrong (pos 1) 20 (λ (n : std.Option Integer). or_wrong (pos 1) 23 (signed_up_to most) (as_integer n)) n).value
    go none = judged most h 20 none
    go (some n) = judged most h 23 (as_integer n)

-- 0 stands for no number.
pub nth-from : (z : ℤ) → 1 ≤ nat_abs z → nth_from z ≡ some z
unfolding nth_from
nth-from (pos n) h = rw (lt-ltb 0 n (omega arith))
nth-from (negsuc n) h = rw (lt-ltb 0 (suc n) (omega arith))

pub nth_read : (most : ℕ) → 1 ≤ most → (v : Json) → nth_from (read_signed most v).value ≡ some (read_signed most v).value
nth_read most h v = nth-from _ (signed-within most h v).0
