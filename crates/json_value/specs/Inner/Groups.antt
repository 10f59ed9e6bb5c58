-- Arrays and objects where so many levels may still be opened, one by one: they are those of `value_at`.
use Rattle.std.specs.Prelude.{ℕ, zero, suc, List, Result, Err}
use Rattle.json_text.specs.declared.SyntaxError.{SyntaxError}
use Rattle.json_text.specs.declared.SyntaxError.TheVariants.{TooDeep}
use Rattle.json_value.specs.Values.{array_of, object_of, value_at}

unfoldable pub array_at : ℕ → List ℕ → ℕ → Result ℕ SyntaxError
array_at zero s i = Err TooDeep
array_at (suc l) s i = array_of (λ v. value_at l s v) s i

unfoldable pub object_at : ℕ → List ℕ → ℕ → Result ℕ SyntaxError
object_at zero s i = Err TooDeep
object_at (suc l) s i = object_of (λ v. value_at l s v) s i
