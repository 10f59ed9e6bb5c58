-- What is not too deep where few levels may be opened is read the same, or is as bad, where more may be. So the walks, which pass over a value
-- with all 16 levels, end each value where the reader of the whole text did.
use Rattle.std.specs.Prelude.{if◌then◌else◌, Result, Ok, Err}
use Prim.Native.Nat.{ℕ, zero, suc, ◌+◌, ◌≤◌}
use mathlib.Core.Bool.{Bool, true, false}
use mathlib.Core.List.{List}
use mathlib.Core.Path.{◌≡◌, refl, sym, ◌∙◌, subst}
use native.Mathlib.Omega.{arith}
use lib.Dec.{eqb}
use lib.ListN.{length}
use Rattle.json_text.specs.Bytes.{byte, next, space_at}
use Rattle.json_text.specs.Words.{scalar_at}
use Rattle.json_text.specs.declared.SyntaxError.{SyntaxError}
use Rattle.json_text.specs.declared.SyntaxError.TheVariants.{Malformed, TooDeep}
use Rattle.json_value.specs.Values.{after_at, first_at, name_at, next_item, elements_at, members_at, array_of, object_of, value_of, value_at, end_at, levels, text_at}
use Rattle.json_value.specs.declared.Item.{Item}
use Rattle.json_value.specs.declared.Item.TheVariants.{More, Done}

-- Where the first is not too deep, the second is the same.
abbrev pub Stays : Result ℕ SyntaxError → Result ℕ SyntaxError → Type 0
Stays a b = (a ≡ Err TooDeep → ⊥) → a ≡ b

-- no reading is two
pub to-deep : {P : Type 0} (k : ℕ) → ◌≡◌ {A = Result ℕ SyntaxError} (Ok k) (Err TooDeep) → P
to-deep k e = cc

pub bad-deep : {P : Type 0} → ◌≡◌ {A = Result ℕ SyntaxError} (Err Malformed) (Err TooDeep) → P
bad-deep e = cc

same-stays : (a : Result ℕ SyntaxError) → Stays a a
same-stays a n = refl

deep-stays : (b : Result ℕ SyntaxError) → Stays (Err TooDeep) b
deep-stays b n = absurd (n refl)

-- so where the first reads to a place, the second reads to the same
pub keeps : (a b : Result ℕ SyntaxError) → Stays a b → (j : ℕ) → a ≡ Ok j → b ≡ Ok j
keeps a b h j e = sym (h (λ z. to-deep j (sym e ∙ z))) ∙ e

next-stays : (a b : Result ℕ SyntaxError) (f g : ℕ → Result ℕ SyntaxError) → Stays a b → ((k : ℕ) → Stays (f k) (g k)) → Stays (next a f) (next b g)
next-stays (Ok k) b f g h q n = subst (λ (r : Result ℕ SyntaxError). f k ≡ next r g) (h (to-deep k)) (q k n)
next-stays (Err Malformed) b f g h q n = subst (λ (r : Result ℕ SyntaxError). Err Malformed ≡ next r g) (h bad-deep) refl
next-stays (Err TooDeep) b f g h q n = absurd (n refl)

item-stays : (x : Result Item SyntaxError) (f g : ℕ → Result ℕ SyntaxError) → ((k : ℕ) → Stays (f k) (g k)) → Stays (next_item x f) (next_item x g)
item-stays (Ok (More k)) f g q = q k
item-stays (Ok (Done k)) f g q = same-stays (Ok k)
item-stays (Err e) f g q = same-stays (Err e)

elements-stays : (v w : ℕ → Result ℕ SyntaxError) → ((k : ℕ) → Stays (v k) (w k)) → (n : ℕ) (s : List ℕ) (i : ℕ) → Stays (elements_at v n s i) (elements_at w n s i)
unfolding elements_at
elements-stays v w h zero s i = same-stays (Err Malformed)
elements-stays v w h (suc n) s i =
    next-stays _ _ _ _ (h i) (λ k. item-stays (after_at 0x5D s k) _ _ (λ m. elements-stays v w h n s m))

members-stays : (v w : ℕ → Result ℕ SyntaxError) → ((k : ℕ) → Stays (v k) (w k)) → (n : ℕ) (s : List ℕ) (i : ℕ) → Stays (members_at v n s i) (members_at w n s i)
unfolding members_at
members-stays v w h zero s i = same-stays (Err Malformed)
members-stays v w h (suc n) s i =
    next-stays (name_at s i) (name_at s i) _ _ (same-stays (name_at s i))
    (λ a. next-stays _ _ _ _ (h a) (λ k. item-stays (after_at 0x7D s k) _ _ (λ m. members-stays v w h n s m)))

choice-stays : (c : Bool) (a b x y : Result ℕ SyntaxError) → Stays a b → Stays x y → Stays (if c then a else x) (if c then b else y)
choice-stays true a b x y p q = p
choice-stays false a b x y p q = q

value_stays : (o p a b : ℕ → Result ℕ SyntaxError) (s : List ℕ) (i : ℕ) → Stays (o i) (p i) → Stays (a i) (b i) → Stays (value_of o a s i) (value_of p b s i)
unfolding value_of
value_stays o p a b s i f g =
    choice-stays (eqb (byte s i) 0x7B) _ _ _ _ f (choice-stays (eqb (byte s i) 0x5B) _ _ _ _ g (same-stays (scalar_at s i)))

pub array-stays : (v w : ℕ → Result ℕ SyntaxError) → ((k : ℕ) → Stays (v k) (w k)) → (s : List ℕ) (i : ℕ) → Stays (array_of v s i) (array_of w s i)
unfolding array_of
array-stays v w h s i = item-stays (Ok (first_at 0x5D s (i + 1))) _ _ (λ k. elements-stays v w h (length s) s k)

pub object-stays : (v w : ℕ → Result ℕ SyntaxError) → ((k : ℕ) → Stays (v k) (w k)) → (s : List ℕ) (i : ℕ) → Stays (object_of v s i) (object_of w s i)
unfolding object_of
object-stays v w h s i = item-stays (Ok (first_at 0x7D s (i + 1))) _ _ (λ k. members-stays v w h (length s) s k)

pub levels-stay : (l m : ℕ) → l ≤ m → (s : List ℕ) (i : ℕ) → Stays (value_at l s i) (value_at m s i)
unfolding value_at
levels-stay zero zero h s i = λ n. refl
levels-stay zero (suc m) h s i = value_stays _ _ _ _ s i (deep-stays _) (deep-stays _)
levels-stay (suc l) zero h s i = absurd (omega arith)
levels-stay (suc l) (suc m) h s i =
    let q : (k : ℕ) → Stays (value_at l s k) (value_at m s k) = λ k. levels-stay l m (omega arith) s k in
    value_stays _ _ _ _ s i (object-stays _ _ q s i) (array-stays _ _ q s i)

pub more-levels : (l m : ℕ) → l ≤ m → (s : List ℕ) (i j : ℕ) → value_at l s i ≡ Ok j → value_at m s i ≡ Ok j
more-levels l m h s i = keeps (value_at l s i) (value_at m s i) (levels-stay l m h s i)

-- and so is the whole text
pub text-stays : (m : ℕ) → levels ≤ m → (s : List ℕ) → Stays (text_at s) (next (value_at m s (space_at s 0)) (λ j. end_at s (space_at s j)))
unfolding text_at
text-stays m h s = next-stays _ _ _ _ (levels-stay levels m h s (space_at s 0)) (λ j. same-stays (end_at s (space_at s j)))
