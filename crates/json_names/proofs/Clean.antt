-- Laws of texts without backslashes: one byte more, and the names, none of which has one.
use Rattle.std.proofs.Common.{◌≡◌, ℕ, zero, suc, ◌+◌, ◌<◌, ◌≤◌, Bool, true, false, List, length, get_or, sym, refl, arith, below_more, ne_eqb, eqb, eqb-true}
use native.Mathlib.Decide.{dec_lt}
use lib.ListN.{get_or-eq_default}
use Rattle.json_walk.specs.Strings.{bytes_at, raw_at, slashed}
use Rattle.json_names.specs.Inner.Slashes.{NoSlash, Clean}

pub clean-none : (s : List ℕ) → NoSlash s 0
unfolding NoSlash
clean-none s k h = absurd (omega arith)

pub clean-more : (s : List ℕ) (i : ℕ) → NoSlash s i → (get_or s i 0 ≡ 0x5C → ⊥) → NoSlash s (i + 1)
unfolding NoSlash
clean-more s i h b = below_more _ _ h b

-- A count of backslashes that is 0 after the whole text.
pub clean-known : (s : List ℕ) (i any : ℕ) → length s ≤ i → (any ≡ 0 → NoSlash s i) → Clean s (eqb any 0)
unfolding NoSlash Clean
clean-known s i any p h e k q = h (eqb-true any 0 e) k (omega arith)

-- Past the end of the text each byte is 0.
nowhere : (s : List ℕ) → NoSlash s (length s) → (k : ℕ) → get_or s k 0 ≡ 0x5C → ⊥
unfolding NoSlash
nowhere s h k e = go (dec_lt k (length s))
  where
    go : Dec (k < length s) → ⊥
    go (yes p) = h k p e
    go (no p) = let z : get_or s k 0 ≡ 0 = get_or-eq_default s 0 (omega arith) in omega arith

none_in : (s : List ℕ) → NoSlash s (length s) → (n i : ℕ) → slashed (bytes_at n s i) ≡ false
unfolding slashed bytes_at
none_in s h zero i = refl
none_in s h (suc n) i = rw (ne_eqb _ _ (nowhere s h i)) (none_in s h n (i + 1))

pub clean-name : (s : List ℕ) (c : Bool) → Clean s c → c ≡ true → (k j : ℕ) → false ≡ slashed (raw_at s k j)
unfolding Clean raw_at
clean-name s c h e k j = sym (none_in s (h e) _ _)
