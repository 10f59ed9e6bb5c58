-- The first day that passes: it passes, and none before it does.
use Rattle.std.specs.Prelude.{if◌then◌else◌}
use Prim.Native.Nat.{ℕ, zero, suc, ◌+◌, ◌-◌, ◌<◌, ◌≤◌}
use mathlib.Core.Bool.{Bool, true, false, false≢true, not, ◌&&◌}
use mathlib.Core.Path.{◌≡◌, refl, sym, ap, ◌∙◌, subst}
use native.Mathlib.Omega.{arith}
use native.Mathlib.Numerals.{add-one}
use lib.Dec.{ltb}
use borrow.Author.Tests.{ltb-true, ltb-false}
use Rattle.rule.proofs.Bools.{by}
use Rattle.window.specs.Inner.Next.{first_from, none_in}

pub first-none : (p : ℕ → Bool) (d : ℕ) → first_from p 0 d ≡ d
unfolding first_from
first-none p d = refl

pub first-here : (p : ℕ → Bool) (n d : ℕ) → 0 < n → p d ≡ true → first_from p n d ≡ d
unfolding first_from
first-here p zero d h e = absurd (omega arith)
first-here p (suc n) d h e = rw e

pub first-later : (p : ℕ → Bool) (n d : ℕ) → 0 < n → p d ≡ false → first_from p n d ≡ first_from p (n - 1) (d + 1)
unfolding first_from
first-later p zero d h e = absurd (omega arith)
first-later p (suc n) d h e =
    let less : suc n - 1 ≡ n = omega arith in
    rw (less, add-one d, e)

-- ---- a run of which none passes

none-step : (p : ℕ → Bool) (n d : ℕ) → 0 < n → (none : Bool) → ((if p d then false else none) && none_in p (d + 1) (n - 1)) ≡ (none && none_in p d n)
unfolding none_in
none-step p zero d h none = absurd (omega arith)
none-step p (suc n) d h none =
    let less : suc n - 1 ≡ n = omega arith in
    rw (less, add-one d) (go (p d) none (none_in p (suc d) n))
  where
    go : (hit none later : Bool) → ((if hit then false else none) && later) ≡ (none && (if hit then false else later))
    go true true later = refl
    go true false later = refl
    go false none later = refl

and-not : (none hit : Bool) → (none && not hit) ≡ (if hit then false else none)
and-not true true = refl
and-not true false = refl
and-not false true = refl
and-not false false = refl

none_end : (p : ℕ → Bool) (d : ℕ) (none : Bool) → (none && none_in p d 0) ≡ none
unfolding none_in
none_end p d true = refl
none_end p d false = refl

-- the walk: none so far, and none from here on, make the whole
pub record NoneAt (p : ℕ → Bool) (low high : ℕ) (none : Bool) (i : ℕ) : Type 0 where
  pub within : i ≤ high
  pub same : (none && none_in p i (high - i)) ≡ none_in p low (high - low)

module _ (p : ℕ → Bool) (low high : ℕ) where
  pub none-starts : low ≤ high → NoneAt p low high true low
  none-starts h = record { within = h; same = refl }

  module _ (none : Bool) (i : ℕ) (a : NoneAt p low high none i) where
    pub none-goes-on : i < high → (hit : Bool) → hit ≡ p i → NoneAt p low high (none && not hit) (i + 1)
    none-goes-on more hit is =
        let less : high - (i + 1) ≡ high - i - 1 = omega arith in
        record { within = omega arith; same = rw (is, and-not none (p i), less) (none-step p (high - i) i (omega arith) none ∙ a.same) }

    pub none-ends : high ≤ i → none ≡ none_in p low (high - low)
    none-ends over =
        let nothing : high - i ≡ 0 = omega arith in
        sym (ap (λ (n : ℕ). none && none_in p i n) nothing ∙ none_end p i none) ∙ a.same

pub first-passed : (p : ℕ → Bool) (k n d : ℕ) → k ≤ n → none_in p d k ≡ true → first_from p n d ≡ first_from p (n - k) (d + k)
unfolding none_in
first-passed p zero n d h e =
    let same : n - 0 ≡ n = omega arith in
    let here : d + 0 ≡ d = omega arith in
    rw (same, here)
first-passed p (suc k) n d h e =
    by (p d) (λ is. absurd (false≢true (rw is at e)))
    (λ is.
    let less : n - 1 - k ≡ n - suc k = omega arith in
    let there : suc d + k ≡ d + suc k = omega arith in
    first-later p n d (omega arith) is
    ∙ (ap (first_from p (n - 1)) (add-one d)
    ∙ (first-passed p k (n - 1) (suc d) (omega arith) (rw is at e) ∙ rw (less, there))))

-- ---- what it is, in one record: at d or later, at most the day after the n days, passing if it is not that, and none before it passes

pub record First (p : ℕ → Bool) (n d r : ℕ) : Type 0 where
  pub low : d ≤ r
  pub high : r ≤ d + n
  pub passes : r < d + n → p r ≡ true
  pub none : (j : ℕ) → d ≤ j → j < r → p j ≡ false

pub first-is : (p : ℕ → Bool) (n d : ℕ) → First p n d (first_from p n d)
unfolding first_from
first-is p zero d =
    record { low = omega arith; high = omega arith; passes = λ h. absurd (omega arith); none = λ j a b. absurd (omega arith) }
first-is p (suc n) d = go (p d) refl (first-is p n (suc d))
  where
    go : (b : Bool) → p d ≡ b → First p n (suc d) (first_from p n (suc d)) → First p (suc n) d (if b then d else first_from p n (suc d))
    go true e later =
        record { low = omega arith; high = omega arith; passes = λ h. e; none = λ j a b. absurd (omega arith) }
    go false e later =
        record {
          low = omega (arith, later.low);
          high = omega (arith, later.high);
          passes = λ h. later.passes (omega arith);
          none = λ j a b.
              by (ltb d j) (λ f. later.none j (ltb-true d j f) b)
              (λ f. let same : d ≡ j = omega (arith, ltb-false d j f) in subst (λ (k : ℕ). p k ≡ false) same e);
        }
