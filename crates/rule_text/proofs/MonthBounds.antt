-- A month that was read without a fault is one of the twelve.
use Rattle.std.specs.Prelude.{if◌then◌else◌}
use Prim.Native.Nat.{ℕ, ◌-◌, ◌≤◌, ◌<◌}
use mathlib.Core.Bool.{Bool, true, false}
use mathlib.Core.List.{List}
use mathlib.Core.Path.{◌≡◌, refl}
use native.Mathlib.Omega.{arith}
use lib.Dec.{eqb, ltb, leb}
use lib.ListN.{length, take}
use borrow.Author.Tests.{leb-true}
use Rattle.json_text.specs.Bytes.{byte, is_digit}
use Rattle.digits.specs.Digits.{digit}
use Rattle.keywords.specs.declared.Named.{Named}
use Rattle.keywords.specs.declared.Named.TheVariants.{Number, Wrong}
use Rattle.keywords.specs.Months.{month_written, month_of}
use Rattle.json_tree.specs.Tree.{Json}
use Rattle.event.specs.Reading.{Reading}
use Rattle.event.specs.Rules.{from_named, read_month}
use Rattle.rule_text.specs.Inner.Bounds.{MonthIn}
use Rattle.rule_text.proofs.WordLaws.{word_holds}

-- Wrong numbers are no fault 0, and a number is a month.
pub record NamedMonth (x : Named) : Type 0 where
  pub month : (from_named x).fault ≡ 0 → MonthIn (from_named x).value

month-choice : (c : Bool) (a b : Named) → NamedMonth a → NamedMonth b → NamedMonth (if c then a else b)
month-choice true a b p q = p
month-choice false a b p q = q

no-month : (n : ℕ) → 0 < n → NamedMonth (Wrong n)
no-month n h = record { month = λ e. absurd (omega arith) }

digit-below : (b : ℕ) → is_digit b ≡ true → digit b ≤ 9
unfolding is_digit
digit-below b e = go (ltb b 0x30) (leb b 0x39) refl e
  where
    go : (c d : Bool) → leb b 0x39 ≡ d → (if c then false else d) ≡ true → digit b ≤ 9
    go true d p q = let z : ◌≡◌ {A = ℕ} 0 1 = cc in absurd (omega arith)
    go false true p q = omega (arith, leb-true b 0x39 p)
    go false false p q = let z : ◌≡◌ {A = ℕ} 0 1 = cc in absurd (omega arith)

if-most : (c : Bool) (a b k : ℕ) → (c ≡ true → a ≤ k) → b ≤ k → (if c then a else b) ≤ k
if-most true a b k p q = p refl
if-most false a b k p q = q

month-most : (s : List ℕ) → month_written s ≤ 12
unfolding month_written
month-most s =
    if-most (eqb (length s) 1) _ _ 12
    (λ h. if-most (is_digit (byte s 0)) _ 0 12 (λ d. omega (arith, digit-below (byte s 0) d)) (omega arith))
    (if-most (eqb (length s) 2) _ 0 12
    (λ h. if-most (eqb (byte s 0) 0x31) _ 0 12
    (λ h. if-most (is_digit (byte s 1)) _ 0 12
    (λ d. if-most (leb (byte s 1) 0x32) _ 0 12 (λ h. omega (arith, leb-true (byte s 1) 0x32 h)) (omega arith))
    (omega arith)) (omega arith)) (omega arith))

written-month : (s : List ℕ) (c : Bool) (b : Named) → leb 1 (month_written s) ≡ c → NamedMonth b → NamedMonth (if c then Number (month_written s) else b)
written-month s true b e q = record { month = λ z. (leb-true 1 (month_written s) e, month-most s) }
written-month s false b e q = q

month-named : (s : List ℕ) → NamedMonth (month_of s)
unfolding month_of
month-named s =
    written-month s _ _ refl
    (month-choice (eqb (length s) 0) (Wrong 24) _ (no-month 24 (omega arith))
    (month-choice (eqb (byte s (length s - 1)) 0x4C) _ (Wrong 24)
    (month-choice (leb 1 (month_written (take (length s - 1) s))) (Wrong 8) (Wrong 24) (no-month 8 (omega arith)) (no-month 24 (omega arith)))
    (no-month 24 (omega arith))))

pub month-in : (v : Json) → (read_month v).fault ≡ 0 → MonthIn (read_month v).value
unfolding read_month
month-in v = word_holds (λ (r : Reading ℕ). r.fault ≡ 0 → MonthIn r.value) 0 (λ raw. from_named (month_of raw)) (λ e. absurd (omega arith)) (λ e. absurd (omega arith)) (λ raw. (month-named raw).month) v
