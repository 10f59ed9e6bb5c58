-- A word of four bytes, byte by byte.
use Rattle.std.specs.Prelude.{if◌then◌else◌, Ok, Err}
use Prim.Native.Nat.{ℕ, ◌+◌}
use mathlib.Core.List.{List, [], ◌∷◌}
use mathlib.Core.Path.{◌≡◌}
use native.Mathlib.Omega.{arith}
use lib.Dec.{eqb}
use Rattle.json_text.specs.Bytes.{byte}
use Rattle.json_text.specs.Words.{word_at}
use Rattle.json_text.specs.declared.SyntaxError.TheVariants.{Malformed}

pub four_bytes : (a b c d : ℕ) (s : List ℕ) (i : ℕ) → word_at (a ∷ b ∷ c ∷ d ∷ []) s i ≡
    (if eqb (byte s i) a then
    (if eqb (byte s (i + 1)) b then
    (if eqb (byte s (i + 2)) c then
    (if eqb (byte s (i + 3)) d then Ok (i + 4) else Err Malformed)
    else Err Malformed)
    else Err Malformed)
    else Err Malformed)
unfolding word_at
four_bytes a b c d s i =
    let two : i + 1 + 1 ≡ i + 2 = omega arith in
    let three : i + 2 + 1 ≡ i + 3 = omega arith in
    let four : i + 3 + 1 ≡ i + 4 = omega arith in
    rw (two, three, four)
