-- The look at the hint: where it says yes, the offset of the local time stands there.
use Rattle.std.specs.Prelude.{if◌then◌else◌}
use Prim.Native.Nat.{ℕ, ◌-◌, ◌<◌, ◌≤◌}
use mathlib.Core.Bool.{Bool, true, false}
use mathlib.Core.List.{List}
use mathlib.Core.Path.{◌≡◌, refl}
use native.Mathlib.Omega.{arith}
use lib.Dec.{ltb}
use borrow.Author.Tests.{ltb-false, ne_eqb, le-ltb, lt-ltb}
use lib.IntN.{ℤ}
use lib.ListN.{length}
use lib.Signed.{lt_z}
use Rattle.signed.proofs.Parts.{false-true}
use Rattle.zone.specs.Table.{valid_table}
use Rattle.zone.specs.Places.{mark_at}
use Rattle.zone.specs.Inner.Hint.{begun_at, ahead_at, still_at}
use Rattle.zone.proofs.OrderLaws.{le_not_lt}
use Rattle.zone.proofs.LookupLaws.{Halves, halves-at}

-- its questions, as they are asked one after the other
pub still-asked : (f : ℕ → ℤ) (n : ℕ) (x : ℤ) (i : ℕ) → i ≤ n → begun_at f x i ≡ true → ahead_at f n x i ≡ still_at f n x i
unfolding still_at
still-asked f n x i h e = rw (le-ltb n i h, e)

pub not-begun : (f : ℕ → ℤ) (n : ℕ) (x : ℤ) (i : ℕ) → i ≤ n → begun_at f x i ≡ false → false ≡ still_at f n x i
unfolding still_at
not-begun f n x i h e = rw (le-ltb n i h, e)

pub not-there : (f : ℕ → ℤ) (n : ℕ) (x : ℤ) (i : ℕ) → n < i → false ≡ still_at f n x i
unfolding still_at
not-there f n x i h = rw (lt-ltb n i h)

-- Two marks at most are read: any others that are the same there give the same answer.
pub still-two : (f g : ℕ → ℤ) (n : ℕ) (x : ℤ) (i : ℕ) → f (i - 1) ≡ g (i - 1) → f i ≡ g i → still_at f n x i ≡ still_at g n x i
unfolding still_at begun_at ahead_at
still-two f g n x i p q = rw (p, q)

module _ (b : ℤ) (ts ns : List ℤ) (v : valid_table b ts ns ≡ true) (x : ℤ) where
  marks : ℕ → ℤ
  marks = mark_at b ts ns

  begun-gives : (i : ℕ) → begun_at marks x i ≡ true → (i ≡ 0 → ⊥) → lt_z x (marks (i - 1)) ≡ false
  unfolding begun_at
  begun-gives i e n = le_not_lt x (marks (i - 1)) (rw (ne_eqb _ _ n) at e)

  ahead-gives : (i : ℕ) → ahead_at marks (length ts) x i ≡ true → i < length ts → lt_z x (marks i) ≡ true
  unfolding ahead_at
  ahead-gives i e n = let d : i ≡ length ts → ⊥ = (λ q. omega arith) in rw (ne_eqb i (length ts) d) at e

  pub still-gives : (i : ℕ) → still_at (mark_at b ts ns) (length ts) x i ≡ true → Halves b ts ns x i i
  unfolding still_at marks
  still-gives i e = go (ltb (length ts) i) refl (begun_at marks x i) refl e
    where
      go : (t : Bool) → ltb (length ts) i ≡ t → (u : Bool) → begun_at marks x i ≡ u → (if t then false else if u then ahead_at marks (length ts) x i else false) ≡ true
          → Halves b ts ns x i i
      go true p u q e = false-true e
      go false p true q e = halves-at b ts ns v x i (ltb-false _ _ p) (begun-gives i q) (ahead-gives i e)
      go false p false q e = false-true e
