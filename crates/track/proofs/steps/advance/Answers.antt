-- `track::steps::advance` meets its contract.
use Rattle.track.proofs.StepLaws.{cursor-plain, cursor-at-day, held-day, held-asked, held_small, next-reached, next-again, next-placed, next_more, next-other}
use Rattle.matcher.proofs.WalkLaws.{number_is, in-calendar, asked-day}
use borrow.Author.Tests.{not-true, not-false}
use native.Mathlib.Omega.{arith}
use mathlib.Core.Path.{sym, ◌∙◌}
use Rattle.track.proofs.steps.advance.Goals as goal

pub next_day-x-requires : goal.next_day-x-requires
next_day-x-requires c = (held-day _ _ _ c.requires, omega (arith, c.requires.high))

pub returns-then-not-is_counted : goal.returns-then-not-is_counted
returns-then-not-is_counted c = cursor-plain _ _ _ _ c.is_counted.ensures (not-true c.is_counted.result c.if-not-is_counted.true-raw) ∙ cursor-at-day _ _ _ _ c.next_day-x.ensures

pub since_first-requires : goal.since_first-requires
since_first-requires c = let h = c.requires in
    let e = c.next_day-x.ensures in
    let at = number_is _ _ e in
    (h.week, (in-calendar _ _ e (omega (arith, h.high)), omega (arith, at, h.high)))

pub cursor_on-requires : goal.cursor_on-requires
cursor_on-requires c = (next-again _ _ _ c.requires _ c.next_day-x.ensures, next-reached _ _ _ c.requires _ c.next_day-x.ensures)

pub returns-then-since_first-eq0 : goal.returns-then-since_first-eq0
returns-then-since_first-eq0 c = c.cursor_on.ensures ∙ cursor-at-day _ _ _ _ c.next_day-x.ensures

pub stays-requires : goal.stays-requires
stays-requires c = (c.requires.row_length, asked-day _ _ _ (held-asked _ _ _ c.requires))

pub overflow_add-result : goal.overflow_add-result
overflow_add-result c = let h = c.requires in
    omega (arith, held_small _ _ _ h (next-placed _ _ _ h _ c.next_day-x.ensures _ c.is_counted.ensures (not-false c.is_counted.result c.if-not-is_counted.false-raw) _ c.since_first.ensures c.if-since_first-eq0.false))

pub returns-then-stays : goal.returns-then-stays
returns-then-stays c = next_more _ _ _ c.requires _ c.next_day-x.ensures _ c.is_counted.ensures (not-false c.is_counted.result c.if-not-is_counted.false-raw) _ c.since_first.ensures c.if-since_first-eq0.false (sym c.stays.ensures ∙ c.if-stays.true)

pub returns : goal.returns
returns c = next-other _ _ _ c.requires _ c.next_day-x.ensures _ c.is_counted.ensures (not-false c.is_counted.result c.if-not-is_counted.false-raw) _ c.since_first.ensures c.if-since_first-eq0.false (sym c.stays.ensures ∙ c.if-stays.false)
