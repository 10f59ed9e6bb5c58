use Rattle.gregorian.specs.Days.{weekday_of}
use borrow.Author.Rules.{rules}
use Rattle.calendar.proofs.days.weekday.Goals as goal

-- src/days.rt:12:1
pub returns : goal.returns
unfolding weekday_of
returns c = search rules
