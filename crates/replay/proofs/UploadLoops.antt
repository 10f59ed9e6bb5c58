-- One turn of the loop over the log, the sum in `bump`, and the ways of `upload`.
use Prim.Native.Nat.{◌/◌, ◌^◌, ℕ, zero, suc, ◌+◌, ◌-◌, ◌<◌, ◌≤◌}
use mathlib.Core.List.{List, [], ◌∷◌}
use mathlib.Core.Path.{◌≡◌, sym, ap, ◌∙◌}
use native.Mathlib.Omega.{arith}
use native.Mathlib.Numerals.{add-one}
use lib.Dec.{ltb}
use lib.IntN.{ℤ, pos, negsuc, ◌+ℤ◌}
use lib.Signed.{mag}
use Rattle.std.specs.Int.{int_max}
use Rattle.std.proofs.lemmas.Int.{ints, clamps}
use mir.Syntax.{w64}
use mir.Val.{SFits, to_z, of_z}
use mir.Facts.{to_z-of_z}
use borrow.Author.Tests.{lt-ltb, le-ltb}
use Rattle.signed.proofs.Parts.{back, parts-fit}
use lib.ListN.{length, get_or, set, drop, drop_of_length-le}
use lib.Seq.{set_out, drop-cons}
use Rattle.signed.specs.Parts.{pos_part}
use Rattle.weeks.specs.Inner.Marks.{up, first_of}
use Rattle.weeks.specs.Inner.Places.{bump, upload, upload_all, Below}
use Rattle.rule.proofs.Bools.{by}
use native.Mathlib.Nat.{le_trans}

-- a turn of the uploads
pub uploads-turn : (b : ℕ) (log : List ℤ) (j : ℕ) (p : List ℤ) → j < length log
    → upload_all b (drop (j + 1) log) (upload b p (get_or log j (pos 0))) ≡ upload_all b (drop j log) p
unfolding upload_all
uploads-turn b log j p h = rw (add-one j, drop-cons log j (pos 0) h)

pub uploads-done : (b : ℕ) (log : List ℤ) (j : ℕ) (p : List ℤ) → length log ≤ j → upload_all b (drop j log) p ≡ p
unfolding upload_all
uploads-done b log j p h = rw (drop_of_length-le log {i = j} h)

bump-below : (z : ℤ) (m : ℕ) → pos_part z ≤ m → pos_part (bump z) ≤ m + 1
unfolding bump
bump-below (pos n) m h = omega arith
bump-below (negsuc n) m h = omega arith

pub set_below : (m : ℕ) (p : List ℤ) (w : ℕ) (v : ℤ) → Below m p → pos_part v ≤ m + 1 → Below (m + 1) (set p w v)
set_below m [] w v b h i = let e = b i in omega arith
set_below m (x ∷ p) zero v b h zero = h
set_below m (x ∷ p) zero v b h (suc i) = let e = b (suc i) in omega arith
set_below m (x ∷ p) (suc w) v b h zero = let e = b 0 in omega arith
set_below m (x ∷ p) (suc w) v b h (suc i) = set_below m p w v (λ k. b (suc k)) h i

pub upload-below : (m b : ℕ) (p : List ℤ) (t : ℤ) → Below m p → Below (m + 1) (upload b p t)
unfolding upload
upload-below m b p t h =
    by (ltb (up t) b)
    (λ e. rw e (λ i. le_trans (h i) (omega arith)))
    (λ e. rw e (set_below m p (first_of b (up t)) _ h (bump-below _ m (h (first_of b (up t))))))

-- ---- the sum in `bump`

next : (z m : ℤ) → m ≡ int_max z (pos 0) → m +ℤ pos 1 ≡ bump z
unfolding bump
next (pos n) m e = omega (arith, ints, clamps)
next (negsuc n) m e = omega (arith, ints, clamps)

next-fits : (z m : ℤ) → m ≡ int_max z (pos 0) → pos_part z < 2 ^ 62 → SFits w64 (m +ℤ pos 1)
next-fits (pos n) m e h = let is : m ≡ pos n = omega (arith, ints, clamps) in rw is (parts-fit (pos (n + 1)) (omega arith) (omega arith))
next-fits (negsuc n) m e h = let is : m ≡ pos 0 = omega (arith, ints, clamps) in rw is (parts-fit (pos 1) (omega arith) (omega arith))

pub bump-is : (z : ℤ) → SFits w64 z → pos_part z < 2 ^ 62 → (m : ℤ) → mag m < 2 ^ 63 → m ≡ int_max (to_z w64 (of_z w64 z)) (pos 0)
    → to_z w64 (of_z w64 (to_z w64 (of_z w64 m) +ℤ pos 1)) ≡ bump z
bump-is z f h m g e =
    let most : m ≡ int_max z (pos 0) = rw (to_z-of_z f) at e in
    rw (back m g) (to_z-of_z (next-fits z m most h) ∙ next z m most)

-- ---- the ways of `upload`

module _ (b : ℕ) (p : List ℤ) (t : ℤ) (x : ℕ) (e : x ≡ up t) where
  pub upload-before : x < b → p ≡ upload b p t
  unfolding upload
  upload-before h = rw (lt-ltb (up t) b (omega arith))

  module _ (h : b ≤ x) (w : ℕ) (d : w ≡ first_of b x) where
    week : w ≡ first_of b (up t)
    week = d ∙ ap (λ (y : ℕ). (y - b) / 604800) e

    pub upload-in : (v : ℤ) → v ≡ bump (get_or p w (pos 0)) → set p w v ≡ upload b p t
    unfolding upload
    upload-in v g = rw (le-ltb (up t) b (omega arith), g, week)

    pub upload-past : length p ≤ w → p ≡ upload b p t
    unfolding upload
    upload-past g = rw (le-ltb (up t) b (omega arith)) (sym (set_out p (first_of b (up t)) _ (omega (arith, week))))
