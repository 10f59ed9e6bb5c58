-- What the library's `all` answers over a range, as `every` has it.
use Rattle.std.proofs.Common.{◌≡◌, ℕ, ◌<◌, Bool, true, false, length, get_or, refl, sym, ◌∙◌, arith}
use Rattle.std.proofs.Math.Nat.{zero-add}
use Rattle.std.specs.Bool.{MatchBool}
use Rattle.std.specs.List.{range_with_len, AllWithin, HoldsAt}
use Rattle.std.proofs.lemmas.List.FromFn.{length-range_with_len, get_or-range_with_len}
use Rattle.signed.proofs.Parts.{false-true}
use Rattle.sheet.specs.Runs.{every}
use Rattle.sheet.proofs.RunLaws.{every-all, every-at}

module _ (p : ℕ → Bool) (n : ℕ) where
  there : (k : ℕ) → k < n → get_or (range_with_len 0 n) k 0 ≡ k
  there k h = get_or-range_with_len 0 n k 0 h ∙ zero-add k

  long : length (range_with_len 0 n) ≡ n
  long = length-range_with_len 0 n

  pub every-answer : (r : Bool)
      → MatchBool r (AllWithin (λ k. p k ≡ true) (range_with_len 0 n) 0 (length (range_with_len 0 n)))
      ((k : ℕ) × (k < length (range_with_len 0 n)) × HoldsAt (λ k. p k ≡ false) (range_with_len 0 n) k)
      → r ≡ every p 0 n
  every-answer true w = sym (every-all p 0 n (λ j a b. rw (there j (omega arith)) at (w j 0 a (omega (arith, long)))))
  every-answer false (k, h, f) = by (every p 0 n) refl
    where
      off : p k ≡ false
      off = rw (there k (omega (arith, long))) at (f 0)

      by : (t : Bool) → every p 0 n ≡ t → false ≡ every p 0 n
      by true e = false-true (sym off ∙ every-at p 0 n e k (omega arith) (omega (arith, long)))
      by false e = sym e
