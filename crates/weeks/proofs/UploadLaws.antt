-- The uploads of each week, counted in its place.
use Rattle.std.specs.Prelude.{if◌then◌else◌}
use Prim.Native.Nat.{ℕ, zero, suc, ◌+◌, ◌-◌, ◌<◌}
use mathlib.Core.Bool.{Bool, true, false}
use mathlib.Core.List.{List, [], ◌∷◌}
use mathlib.Core.Path.{◌≡◌, refl, sym, ap, ◌∙◌}
use native.Mathlib.Omega.{arith}
use native.Mathlib.Nat.{zero-add}
use native.Mathlib.Numerals.{add-one}
use lib.Dec.{ltb}
use lib.IntN.{ℤ, pos, negsuc}
use mir.Syntax.{w64}
use mir.Val.{SFits}
use borrow.Author.Tests.{lt-ltb, le-ltb, eq-eqb, ne_eqb}
use Rattle.rule.specs.Lists.{any}
use Rattle.rule.proofs.Bools.{by}
use Rattle.sheet.specs.Runs.{tabulate}
use Rattle.sheet.proofs.RunLaws.{tab-same, tab-at, tab-set}
use Rattle.weeks.specs.Weeks.{in_week, count}
use Rattle.weeks.specs.Inner.Marks.{up, first_of}
use Rattle.weeks.specs.Inner.Places.{bump, upload, upload_all}
use Rattle.weeks.proofs.Instants.{in-week}

-- the uploads of a week, or what the place holds where there are none
unfoldable pub or_uploads : ℕ → ℤ → ℤ
or_uploads zero z = z
or_uploads (suc n) z = pos (suc n)

-- ---- one upload

upload-tab : (from t : ℤ) (n : ℕ) → SFits w64 from → 0 < up from → (f : ℕ → ℤ)
    → upload (up from) (tabulate f 0 n) t ≡ tabulate (λ i. if in_week from i t then bump (f i) else f i) 0 n
unfolding upload
upload-tab from t n a b f =
    by (ltb (up t) (up from))
    (λ e. rw e (tab-same f (λ i. if in_week from i t then bump (f i) else f i) 0 n (λ j p q. rw (in-week from t a b j, e))))
    (λ e. rw e (tab-set f (λ i. if in_week from i t then bump (f i) else f i) 0 n (first_of (up from) (up t)) _
    (λ h. rw (tab-at f 0 n (first_of (up from) (up t)) (pos 0) h, zero-add (first_of (up from) (up t)), in-week from t a b (first_of (up from) (up t)), e, eq-eqb (first_of (up from) (up t)) (first_of (up from) (up t)) refl))
    (λ i h. rw (in-week from t a b i, e, ne_eqb (first_of (up from) (up t)) i (λ p. h (omega arith))))))

bump-or : (k m : ℕ) → bump (or_uploads k (negsuc m)) ≡ or_uploads (k + 1) (negsuc m)
unfolding bump or_uploads
bump-or zero m = refl
bump-or (suc k) m = ap pos (omega arith) ∙ ap (λ (x : ℕ). or_uploads x (negsuc m)) (sym (add-one (suc k)))

bumped : (c m : ℕ) (b : Bool) → (if b then bump (or_uploads c (negsuc m)) else or_uploads c (negsuc m)) ≡ or_uploads (if b then c + 1 else c) (negsuc m)
bumped c m true = bump-or c m
bumped c m false = refl

-- the count of a week goes up by one for an upload in it
counted : (from : ℤ) (ts : List ℤ) (c m i : ℕ) (b : Bool)
    → or_uploads (count (in_week from i) ts + (if b then c + 1 else c)) (negsuc m) ≡ or_uploads ((if b then 1 else 0) + count (in_week from i) ts + c) (negsuc m)
counted from ts c m i true = ap (λ (x : ℕ). or_uploads x (negsuc m)) (omega arith)
counted from ts c m i false = ap (λ (x : ℕ). or_uploads x (negsuc m)) (omega arith)

-- ---- all uploads, into places that hold counts or negative numbers

pub uploaded : (from : ℤ) (log : List ℤ) (n : ℕ) → SFits w64 from → 0 < up from → (c m : ℕ → ℕ)
    → upload_all (up from) log (tabulate (λ i. or_uploads (c i) (negsuc (m i))) 0 n)
    ≡ tabulate (λ i. or_uploads (count (in_week from i) log + c i) (negsuc (m i))) 0 n
unfolding upload_all count
uploaded from [] n f a c m =
    tab-same (λ i. or_uploads (c i) (negsuc (m i))) (λ i. or_uploads (0 + c i) (negsuc (m i))) 0 n (λ j p q. ap (λ (x : ℕ). or_uploads x (negsuc (m j))) (omega arith))
uploaded from (t ∷ ts) n f a c m =
    ap (upload_all (up from) ts) (upload-tab from t n f a (λ i. or_uploads (c i) (negsuc (m i)))
    ∙ tab-same (λ i. if in_week from i t then bump (or_uploads (c i) (negsuc (m i))) else or_uploads (c i) (negsuc (m i)))
    (λ i. or_uploads (if in_week from i t then c i + 1 else c i) (negsuc (m i))) 0 n (λ j p q. bumped (c j) (m j) (in_week from j t)))
    ∙ (uploaded from ts n f a (λ i. if in_week from i t then c i + 1 else c i) m
    ∙ tab-same _ (λ i. or_uploads ((if in_week from i t then 1 else 0) + count (in_week from i) ts + c i) (negsuc (m i))) 0 n
    (λ j p q. counted from ts (c j) (m j) j (in_week from j t)))

-- ---- "at least one"

pub any-counts : {A : Type 0} (p : A → Bool) (l : List A) → any p l ≡ ltb 0 (count p l)
unfolding any count
any-counts p [] = sym (le-ltb 0 0 (omega arith))
any-counts p (x ∷ l) = by (p x) (λ e. rw e (sym (lt-ltb 0 (1 + count p l) (omega arith)))) (λ e. rw (e, zero-add (count p l)) (any-counts p l))
