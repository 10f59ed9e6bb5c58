-- How far the spans that have begun reach says which weeks are touched.
use Rattle.std.specs.Prelude.{if◌then◌else◌}
use Prim.Native.Nat.{max, ℕ, zero, suc, ◌<◌}
use mathlib.Core.Bool.{Bool, true, false, ◌&&◌, ◌||◌}
use mathlib.Core.List.{List, [], ◌∷◌}
use mathlib.Core.Path.{◌≡◌, refl, sym, ap, ◌∙◌}
use native.Mathlib.Omega.{arith}
use native.Mathlib.Nat.{zero-add}
use lib.Dec.{ltb, leb, eqb}
use lib.IntN.{pos, negsuc}
use borrow.Author.Tests.{ltb-true, ltb-false, leb-true, leb-false, eqb-true, eqb-false, lt-ltb, le-ltb, le-leb, lt-leb, eq-eqb, ne_eqb}
use Rattle.rule.specs.Lists.{any}
use Rattle.rule.proofs.Bools.{by}
use Rattle.sheet.specs.Runs.{tabulate}
use Rattle.sheet.proofs.RunLaws.{tab-same, tab-at, tab-set}
use Rattle.weeks.specs.Inner.Marks.{Span, larger, raise, raise_all, sweep, peak, reach}
use Rattle.weeks.proofs.TouchLaws.{covers}

-- ---- the larger of two numbers, as the arithmetic tactic reads it

pub larger-max : (a b : ℕ) → larger a b ≡ max a b
unfolding larger
larger-max a b = by (ltb a b) (λ e. rw e (omega (arith, ltb-true a b e))) (λ e. rw e (omega (arith, ltb-false a b e)))

three : (a b c : ℕ) → larger (larger a b) c ≡ larger a (larger b c)
three a b c = simp larger-max (omega arith)

four : (a b c d : ℕ) → larger (larger a b) (larger c d) ≡ larger (max a c) (larger b d)
four a b c d = simp larger-max (omega arith)

-- ---- the farthest end is past i where one of the ends is

past-larger : (i a b : ℕ) → ltb i (larger a b) ≡ (ltb i a || ltb i b)
unfolding larger
past-larger i a b =
    by (ltb a b)
    (λ e. let h = ltb-true a b e in rw e (by (ltb i a) (λ f. rw (f, lt-ltb i b (omega (arith, ltb-true i a f)))) (λ f. rw f)))
    (λ e. let h = ltb-false a b e in rw e (by (ltb i a) (λ f. rw f) (λ f. rw (f, le-ltb i b (omega (arith, ltb-false i a f))))))

-- an end that counts only where the span has begun
begun : (i a : ℕ) (t : Bool) → ltb i (if t then a else 0) ≡ (t && ltb i a)
begun i a true = refl
begun i a false = le-ltb i 0 (omega arith)

pub reach-covers : (ss : List Span) (i : ℕ) → ltb i (reach ss i) ≡ any (covers i) ss
unfolding reach any covers
reach-covers [] i = le-ltb i 0 (omega arith)
reach-covers (s ∷ ss) i = rw (past-larger, begun, reach-covers ss i)

-- ---- one week on, the spans that begin in it join

beyond : (f i : ℕ) → i < f → (f ≡ suc i → ⊥) → suc i < f
beyond f i h n = by (ltb (suc i) f) (λ e. ltb-true (suc i) f e) (λ e. absurd (n (omega (arith, ltb-false (suc i) f e))))

begin-zero : (f : ℕ) → eqb f 0 ≡ leb f 0
begin-zero f =
    by (leb f 0) (λ e. eq-eqb f 0 (omega (arith, leb-true f 0 e)) ∙ sym e) (λ e. ne_eqb f 0 (λ p. omega (arith, leb-false f 0 e)) ∙ sym e)

begin-next : (f a i : ℕ) → max (if leb f i then a else 0) (if eqb f (suc i) then a else 0) ≡ (if leb f (suc i) then a else 0)
begin-next f a i =
    by (leb f i)
    (λ e. let h = leb-true f i e in rw (e, ne_eqb f (suc i) (λ p. omega arith), le-leb f (suc i) (omega arith)) (omega arith))
    (λ e. let h = leb-false f i e in rw e
    (by (eqb f (suc i))
    (λ g. let k = eqb-true f (suc i) g in rw (g, le-leb f (suc i) (omega arith)) (omega arith))
    (λ g. rw (g, lt-leb f (suc i) (beyond f i h (eqb-false f (suc i) g))) refl)))

pub reach-next : (ss : List Span) (i : ℕ) → larger (reach ss i) (peak ss (suc i)) ≡ reach ss (suc i)
unfolding reach peak
reach-next [] i = larger-max 0 0
reach-next (s ∷ ss) i = rw (four, begin-next s.first s.after i, reach-next ss i)

pub reach-zero : (ss : List Span) → peak ss 0 ≡ reach ss 0
unfolding reach peak
reach-zero [] = refl
reach-zero (s ∷ ss) = rw (reach-zero ss, begin-zero s.first)

-- ---- after all spans each place has the farthest end of those that begin there

unfoldable raised : (ℕ → ℕ) → Span → ℕ → ℕ
raised f s i = larger (f i) (if eqb s.first i then s.after else 0)

raise-tab : (f : ℕ → ℕ) (s : Span) (n : ℕ) → raise (tabulate (λ i. pos (f i)) 0 n) s ≡ tabulate (λ i. pos (raised f s i)) 0 n
unfolding raise raised
raise-tab f s n =
    tab-set (λ i. pos (f i)) (λ i. pos (raised f s i)) 0 n s.first _
    (λ h. rw (tab-at (λ i. pos (f i)) 0 n s.first (pos 0) h, zero-add s.first, eq-eqb s.first s.first refl))
    (λ i h. rw (ne_eqb s.first i (λ p. h (omega arith)), larger-max (f i) 0) (ap pos (omega arith)))

pub raise-all : (ss : List Span) (f : ℕ → ℕ) (n : ℕ) → raise_all ss (tabulate (λ i. pos (f i)) 0 n) ≡ tabulate (λ i. pos (larger (f i) (peak ss i))) 0 n
unfolding raise_all peak raised
raise-all [] f n = tab-same (λ i. pos (f i)) (λ i. pos (larger (f i) 0)) 0 n (λ j p q. ap pos (rw (larger-max (f j) 0) (omega arith)))
raise-all (s ∷ ss) f n =
    ap (raise_all ss) (raise-tab f s n)
    ∙ (raise-all ss (raised f s) n
    ∙ tab-same (λ i. pos (larger (raised f s i) (peak ss i))) (λ i. pos (larger (f i) (peak (s ∷ ss) i))) 0 n (λ j p q. ap pos (three (f j) _ (peak ss j))))

-- ---- and the sweep says of each week whether one reaches past it

pub sweep-tab : (ss : List Span) (r k n : ℕ) → larger r (peak ss k) ≡ reach ss k
    → sweep r k (tabulate (λ i. pos (peak ss i)) k n) ≡ tabulate (λ i. if any (covers i) ss then negsuc 0 else negsuc 1) k n
unfolding sweep tabulate
sweep-tab ss r k zero h = refl
sweep-tab ss r k (suc n) h = rw (h, reach-covers ss k, sweep-tab ss (reach ss k) (suc k) n (reach-next ss k))
