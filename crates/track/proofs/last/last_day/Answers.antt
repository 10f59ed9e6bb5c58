-- `track::last::last_day` meets its contract.
use Rattle.track.specs.Inner.Last.{last_by}
use Rattle.track.proofs.YearLaws.{counted-endless}
use borrow.Author.Rules.{rules}
use Rattle.track.proofs.last.last_day.Goals as goal

pub count_day-requires : goal.count_day-requires
count_day-requires c = (search rules, counted-endless _)

pub returns-in-Never : goal.returns-in-Never
unfolding last_by
returns-in-Never c = rw c.in-Never.is

pub returns-in-Until : goal.returns-in-Until
unfolding last_by
returns-in-Until c = rw (
  c.in-Until.is,
  ← c.until_day.ensures,
)

pub returns-in-Count : goal.returns-in-Count
unfolding last_by
returns-in-Count c = rw (
  c.in-Count.is,
  ← c.count_day.ensures,
)
