-- The place of a value that may be absent; of a string it is that of the opening quote.
use Rattle.std.specs.Prelude.{ℕ, Option}

abbrev pub Place : Type 0
Place = Option ℕ
