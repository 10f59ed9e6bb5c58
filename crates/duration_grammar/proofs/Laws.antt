-- A byte that is the letter c in either case lies in the text: past its end all bytes are 0.
use Prim.Native.Nat.{ℕ, zero, suc, ◌<◌}
use mathlib.Core.Path.{◌≡◌, refl}
use native.Mathlib.Omega.{arith}
use Rattle.duration_grammar.specs.Letter.{upper}

upper-zero : upper 0 ≡ 0
unfolding upper
upper-zero = refl

pub some-letter : (b r c : ℕ) → r ≡ upper b → r ≡ c → 0 < c → 0 < b
some-letter zero r c e h p = absurd (omega (arith, upper-zero))
some-letter (suc b) r c e h p = omega arith
