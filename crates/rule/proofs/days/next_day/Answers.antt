-- `rule::days::next_day` meets its contract: the laws of the day after, in its three cases.
use native.Mathlib.Omega.{arith}
use Rattle.rule.proofs.DayLaws.{of-day, step-month, step-year, step-next-year, year-fits}
use Rattle.rule.proofs.days.next_day.Goals as goal

pub next_weekday-weekday-requires : goal.next_weekday-weekday-requires
next_weekday-weekday-requires c = (of-day _ c.requires.0 c.requires.1).weekday

pub overflow_add-result-then-x : goal.overflow_add-result-then-x
overflow_add-result-then-x c = let at = c.requires in
    let facts = of-day _ at.0 at.1 in
    omega (arith, facts.yearday, facts.yeardays)

pub returns-then-x : goal.returns-then-x
returns-then-x c = let at = c.requires in
    rw c.next_weekday-weekday.ensures (step-month _ at.0 at.1 c.if-x.true)

pub overflow_add-result-then-x-lt12-2 : goal.overflow_add-result-then-x-lt12-2
overflow_add-result-then-x-lt12-2 c = let at = c.requires in
    let facts = of-day _ at.0 at.1 in
    omega (arith, facts.yearday, facts.yeardays)

pub returns-then-x-lt12 : goal.returns-then-x-lt12
returns-then-x-lt12 c = let at = c.requires in
    rw (c.next_weekday-weekday.ensures, c.month_length.ensures)
    (step-year _ at.0 at.1 c.if-x.false c.if-x-lt12.true)

pub overflow_add-year : goal.overflow_add-year
overflow_add-year c = let at = c.requires in
    record { fits = year-fits _ at.0 at.1 }

pub returns : goal.returns
returns c = let at = c.requires in
    rw (c.next_weekday-weekday.ensures, c.year_length.ensures)
    (step-next-year _ at.0 at.1 c.if-x.false c.if-x-lt12.false)
