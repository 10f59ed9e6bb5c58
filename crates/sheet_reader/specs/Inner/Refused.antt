-- The number of an answer: 0 where a sheet is accepted, else that of the refusal.
use Rattle.std.specs.Prelude.{ℕ, Result, Ok, Err}
use Rattle.sheet_reader.specs.declared.refusal.Refusal.{Refusal}
use Rattle.sheet_reader.specs.declared.refusal.Refusal.TheVariants.{TooShort, UnknownVersion, RecordSize, Distance, Order, Marks, Zeros}

abbrev pub number_of : Result (Unit {0}) Refusal → ℕ
number_of (Ok a) = 0
number_of (Err TooShort) = 34
number_of (Err UnknownVersion) = 35
number_of (Err RecordSize) = 36
number_of (Err Distance) = 37
number_of (Err Order) = 38
number_of (Err Marks) = 39
number_of (Err Zeros) = 40
