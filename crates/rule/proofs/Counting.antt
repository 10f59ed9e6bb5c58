-- Laws of `count_in`: it adds up over neighbouring runs of days.
use Rattle.std.specs.Prelude.{if◌then◌else◌}
use Prim.Native.Nat.{ℕ, zero, suc, ◌+◌, ◌-◌, ◌<◌, ◌≤◌}
use mathlib.Core.Bool.{Bool, true, false}
use mathlib.Core.Option.{Option, none, some}
use mathlib.Core.Path.{◌≡◌, refl, sym, ap, ◌∙◌}
use native.Mathlib.Omega.{arith}
use borrow.Author.Tests.{ltb-true, lt-ltb}
use Rattle.rule.specs.Lists.{count_in, within}

pub count-more : (p : ℕ → Bool) (a n : ℕ) → p a ≡ true → count_in p a (suc n) ≡ suc (count_in p (suc a) n)
unfolding count_in
count-more p a n e = rw e (omega arith)

pub count_less : (p : ℕ → Bool) (a n : ℕ) → p a ≡ false → count_in p a (suc n) ≡ count_in p (suc a) n
unfolding count_in
count_less p a n e = rw e (omega arith)

pub count_none : (p : ℕ → Bool) (a : ℕ) → count_in p a 0 ≡ 0
unfolding count_in
count_none p a = refl

pub count-nothing : (p : ℕ → Bool) (a n : ℕ) → ((j : ℕ) → a ≤ j → j < a + n → p j ≡ false) → count_in p a n ≡ 0
count-nothing p a zero h = count_none p a
count-nothing p a (suc n) h =
    count_less p a n (h a (omega arith) (omega arith)) ∙ count-nothing p (suc a) n (λ j low high. h j (omega arith) (omega arith))

pub within-less : (a b : ℕ) (most : Option ℕ) → a ≤ b → within b most ≡ true → within a most ≡ true
unfolding within
within-less a b none h e = refl
within-less a b (some most) h e = lt-ltb a most (omega (arith, ltb-true b most e))

pub count-split : (p : ℕ → Bool) (a m n : ℕ) → count_in p a (m + n) ≡ count_in p a m + count_in p (a + m) n
unfolding count_in
count-split p a zero n =
    let none : 0 + n ≡ n = omega arith in
    let here : a + 0 ≡ a = omega arith in
    rw (none, here) (omega arith)
count-split p a (suc m) n =
    let one : suc m + n ≡ suc (m + n) = omega arith in
    let there : a + suc m ≡ suc a + m = omega arith in
    rw (one, there) (omega (arith, count-split p (suc a) m n))

pub count_most : (p : ℕ → Bool) (a n : ℕ) → count_in p a n ≤ n
unfolding count_in
count_most p a zero = omega arith
count_most p a (suc n) = go (p a) (count_most p (suc a) n)
  where
    go : (b : Bool) → count_in p (suc a) n ≤ n → (if b then 1 else 0) + count_in p (suc a) n ≤ suc n
    go true h = omega arith
    go false h = omega arith

-- a day that passes has its place among those that do
pub count-place : (p : ℕ → Bool) (a b n : ℕ) → p (a + b) ≡ true → b < n → count_in p a b + 1 ≤ count_in p a n
count-place p a b n e h =
    let whole : b + suc (n - suc b) ≡ n = omega arith in
    let parts = count-split p a b (suc (n - suc b)) in
    let here = count-more p (a + b) (n - suc b) e in
    let sum : count_in p a n ≡ count_in p a b + count_in p (a + b) (suc (n - suc b)) = ap (count_in p a) (sym whole) ∙ parts in
    omega arith

-- two tests that agree on the days of a run count the same there
pub count_same : (p q : ℕ → Bool) (a n : ℕ) → ((j : ℕ) → a ≤ j → j < a + n → p j ≡ q j) → count_in p a n ≡ count_in q a n
unfolding count_in
count_same p q a zero h = refl
count_same p q a (suc n) h =
    rw (h a (omega arith) (omega arith), count_same p q (suc a) n (λ j low high. h j (omega arith) (omega arith)))
