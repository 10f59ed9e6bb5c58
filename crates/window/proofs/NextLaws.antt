-- The next second that passes: it is at hand by what it is, and two tests have their next where the nearer has its own.
use Rattle.std.specs.Prelude.{if◌then◌else◌}
use Prim.Native.Nat.{ℕ, ◌-◌, ◌<◌, ◌≤◌, min}
use mathlib.Core.Bool.{Bool, true, false, false≢true, ◌||◌}
use mathlib.Core.Path.{◌≡◌, refl, sym, ◌∙◌}
use native.Mathlib.Omega.{arith}
use lib.Dec.{ltb}
use borrow.Author.Tests.{ltb-true, ltb-false}
use Rattle.rule.proofs.Bools.{by, or_left, or_right}
use Rattle.window.proofs.FirstLaws.{first-is}
use Rattle.window.specs.Inner.Next.{next_of, lower}

pub record Next (p : ℕ → Bool) (a to r : ℕ) : Type 0 where
  pub low : a ≤ r
  pub high : r ≤ to
  pub passes : r < to → p r ≡ true
  pub none : (j : ℕ) → a ≤ j → j < r → p j ≡ false

module _ (p : ℕ → Bool) (a to : ℕ) (order : a ≤ to) where
  pub next-is : Next p a to (next_of p a to)
  unfolding next_of
  next-is =
      let f = first-is p (to - a) a in
      record { low = f.low; high = omega (arith, f.high); passes = λ h. f.passes (omega arith); none = f.none }

  pub next-unique : (r s : ℕ) → Next p a to r → Next p a to s → r ≡ s
  next-unique r s f g =
      by (ltb r s)
      (λ e.
      let less = ltb-true r s e in
      absurd (false≢true (sym (g.none r f.low less) ∙ f.passes (omega (arith, g.high)))))
      (λ e.
      by (ltb s r)
      (λ h.
      let less = ltb-true s r h in
      absurd (false≢true (sym (f.none s g.low less) ∙ g.passes (omega (arith, f.high)))))
      (λ h. omega (arith, ltb-false r s e, ltb-false s r h)))

  pub next-made : (r : ℕ) → Next p a to r → r ≡ next_of p a to
  next-made r f = next-unique r (next_of p a to) f next-is

-- the library's word for it
pub lower-min : (a b : ℕ) → min a b ≡ lower a b
unfolding lower
lower-min a b =
    by (ltb b a)
    (λ e. let less = ltb-true b a e in rw e (omega arith))
    (λ e. let more = ltb-false b a e in rw e (omega arith))

-- the nearer of two
pub next-lower : (p q : ℕ → Bool) (a to r s : ℕ) → Next p a to r → Next q a to s → Next (λ x. p x || q x) a to (lower r s)
unfolding lower
next-lower p q a to r s f g = go (ltb s r) refl
  where
    go : (b : Bool) → ltb s r ≡ b → Next (λ x. p x || q x) a to (if b then s else r)
    go true e =
        let less = ltb-true s r e in
        record {
          low = g.low;
          high = g.high;
          passes = λ h. or_right (p s) (q s) (g.passes h);
          none = λ j low high. rw (f.none j low (omega arith)) (g.none j low high);
        }
    go false e =
        let more = ltb-false s r e in
        record {
          low = f.low;
          high = f.high;
          passes = λ h. or_left (p r) (q r) (f.passes h);
          none = λ j low high. rw (f.none j low high) (g.none j low (omega arith));
        }

-- what is next from an earlier second on is next, as long as it was not passed
pub next-later : (p : ℕ → Bool) (a b to r : ℕ) → a ≤ b → b ≤ r → Next p a to r → Next p b to r
next-later p a b to r h k f = record { low = k; high = f.high; passes = f.passes; none = λ j low high. f.none j (omega arith) high }
