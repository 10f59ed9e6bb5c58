-- The numbers that the definitions have for the classes of weeks and for the refusals; 0 is none.
use Rattle.std.specs.Prelude.{ℕ, Option, Some, None}
use Rattle.replay.specs.declared.tallies.Class.{Class}
use Rattle.replay.specs.declared.tallies.Class.TheVariants.{Reported, Shut, Missing}
use Rattle.replay.specs.declared.refusals.Reason.{Reason}
use Rattle.replay.specs.declared.refusals.Reason.TheVariants.{LogOutOfOrder, NoRange, NoSheet, TooFewPlaces}

abbrev pub class_number : Class → ℕ
class_number Reported = 0
class_number Shut = 1
class_number Missing = 2

abbrev pub reason_number : Reason → ℕ
reason_number LogOutOfOrder = 30
reason_number NoRange = 31
reason_number NoSheet = 32
reason_number TooFewPlaces = 33

abbrev pub answer_of : Option Reason → ℕ
answer_of None = 0
answer_of (Some reason) = reason_number reason
