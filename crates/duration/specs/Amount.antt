-- The numbers of a duration. Each unit has a letter of its own, and its number stands before that letter.
use Rattle.std.specs.Prelude.{if◌then◌else◌, ℕ, ◌+◌, ◌*◌, List, [], ◌∷◌, eqb}
use Rattle.json_text.specs.Bytes.{is_digit}
use Rattle.digits.specs.Digits.{digit}
use Rattle.duration_grammar.specs.Letter.{upper}

-- The number whose digits stand right before the byte c, where n is what the digits passed last write; 0 where there is no c.
unfoldable pub before : ℕ → ℕ → List ℕ → ℕ
before c n [] = 0
before c n (b ∷ bs) =
    if is_digit b then before c (10 * n + digit b) bs else
    if eqb (upper b) c then n else
    before c 0 bs

unfoldable pub amount_of : ℕ → List ℕ → ℕ
amount_of c s = before c 0 s
