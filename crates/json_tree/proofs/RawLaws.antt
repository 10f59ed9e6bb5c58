-- The bytes at a place, one by one, are a part of the text.
use Prim.Native.Nat.{ℕ, zero, suc, ◌+◌, ◌-◌, ◌≤◌}
use mathlib.Core.List.{List, ◌∷◌}
use mathlib.Core.Path.{◌≡◌, refl, ap, sym, ◌∙◌}
use native.Mathlib.Omega.{arith}
use native.Mathlib.Numerals.{add-one}
use lib.ListN.{length, get_or, take, drop}
use lib.Seq.{drop-cons}
use Rattle.json_walk.specs.Strings.{bytes_at, raw_at}

bytes-part : (n : ℕ) (s : List ℕ) (i : ℕ) → i + n ≤ length s → take n (drop i s) ≡ bytes_at n s i
unfolding bytes_at
bytes-part zero s i h = refl
bytes-part (suc n) s i h =
    let head : drop i s ≡ get_or s i 0 ∷ drop (suc i) s = drop-cons s i 0 (omega arith) in
    let rest : take n (drop (i + 1) s) ≡ bytes_at n s (i + 1) = bytes-part n s (i + 1) (omega arith) in
    let same : take n (drop (suc i) s) ≡ bytes_at n s (i + 1) = ap (λ (k : ℕ). take n (drop k s)) (sym (add-one i)) ∙ rest in
    ap (λ (l : List ℕ). take (suc n) l) head ∙ ap (λ (l : List ℕ). get_or s i 0 ∷ l) same

pub raw-part : (s : List ℕ) (at stop : ℕ) → at + 2 ≤ stop → stop ≤ length s → take (stop - 1 - (at + 1)) (drop (at + 1) s) ≡ raw_at s at stop
unfolding raw_at
raw-part s at stop h k =
    let size : stop - 1 - (at + 1) ≡ stop - at - 2 = omega arith in
    rw size (bytes-part (stop - at - 2) s (at + 1) (omega arith))
