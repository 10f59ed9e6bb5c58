-- Numbers, RFC 8259, section 6: number = [ minus ] int [ frac ] [ exp ]
use Rattle.std.specs.Prelude.{if◌then◌else◌, ℕ, ◌+◌, List, eqb, Result, Ok, Err}
use Rattle.json_text.specs.Bytes.{byte, next, is_digit, digits_at}
use Rattle.json_text.specs.declared.SyntaxError.{SyntaxError}
use Rattle.json_text.specs.declared.SyntaxError.TheVariants.{Malformed}

-- 1*DIGIT
unfoldable pub some_digits_at : List ℕ → ℕ → Result ℕ SyntaxError
some_digits_at s i = if is_digit (byte s i) then Ok (digits_at s (i + 1)) else Err Malformed

-- int = zero / ( digit1-9 *DIGIT )
unfoldable pub int_at : List ℕ → ℕ → Result ℕ SyntaxError
int_at s i = if eqb (byte s i) 0x30 then Ok (i + 1) else some_digits_at s i

-- [ frac ], frac = decimal-point 1*DIGIT
unfoldable pub frac_at : List ℕ → ℕ → Result ℕ SyntaxError
frac_at s i = if eqb (byte s i) 0x2E then some_digits_at s (i + 1) else Ok i

-- [ minus / plus ] 1*DIGIT
unfoldable pub power_at : List ℕ → ℕ → Result ℕ SyntaxError
power_at s i =
    if eqb (byte s i) 0x2D then some_digits_at s (i + 1) else
    if eqb (byte s i) 0x2B then some_digits_at s (i + 1) else
    some_digits_at s i

-- [ exp ], exp = e [ minus / plus ] 1*DIGIT, e = %x65 / %x45
unfoldable pub exp_at : List ℕ → ℕ → Result ℕ SyntaxError
exp_at s i =
    if eqb (byte s i) 0x65 then power_at s (i + 1) else
    if eqb (byte s i) 0x45 then power_at s (i + 1) else
    Ok i

-- int [ frac ] [ exp ]
unfoldable pub unsigned_at : List ℕ → ℕ → Result ℕ SyntaxError
unsigned_at s i = next (int_at s i) (λ j. next (frac_at s j) (λ k. exp_at s k))

-- number = [ minus ] int [ frac ] [ exp ]
unfoldable pub number_at : List ℕ → ℕ → Result ℕ SyntaxError
number_at s i = if eqb (byte s i) 0x2D then unsigned_at s (i + 1) else unsigned_at s i
