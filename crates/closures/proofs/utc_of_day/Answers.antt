-- `closures::utc_of_day` asks a valid table for the UTC time of a day within the calendar.
use Rattle.std.proofs.Common.{arith, sym}
use Rattle.signed.proofs.Parts.{back}
use Rattle.gregorian.proofs.SecondLaws.{seconds-small}
use Rattle.closures.proofs.utc_of_day.Goals as goal

pub utc-utc-requires : goal.utc-utc-requires
utc-utc-requires g c = (
  sym c.if-not-valid.ensures,
  rw (back _ c.seconds_of-local.type_inv, c.seconds_of-local.ensures) (seconds-small _ c.requires (omega arith)),
)
