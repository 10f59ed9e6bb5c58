-- A `Local` asks for the date of seconds within the calendar only.
use Rattle.std.proofs.Common.{rules, w64, to_z, of_z}
use Rattle.gregorian.specs.Inner.Seconds.{InCalendar}
use Rattle.gregorian.proofs.SecondLaws.{day-within}
use Rattle.show.proofs.LocalDisplay.fmt.Goals as goal

pub date_of-requires : goal.date_of-requires
date_of-requires g c =
    let h : InCalendar (to_z w64 (of_z w64 c.args.self.now.0)) = record { low = search rules; high = search rules } in
    rw c.moment_of-day.ensures (day-within _ h)
