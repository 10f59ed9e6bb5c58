-- The result that a reading of the cycle stands for.
use Rattle.std.specs.Prelude.{ℕ, Result, Ok, Err}
use Rattle.json_text.specs.declared.SyntaxError.{SyntaxError}
use Rattle.json_text.specs.declared.SyntaxError.TheVariants.{Malformed, TooDeep}
use Rattle.json_ends.specs.declared.read.Reading.{Reading}
use Rattle.json_ends.specs.declared.read.Reading.TheVariants.{To, Bad, Deep}

abbrev pub told : Reading → Result ℕ SyntaxError
told (To e) = Ok e
told Bad = Err Malformed
told Deep = Err TooDeep
