-- `track::steps::cursor_on` meets its contract.
use Rattle.track.proofs.StepLaws.{cursor-plain, cursor-first, cursor-made, counted-asked}
use Rattle.matcher.proofs.WalkLaws.{number_is, day-again, in-calendar, asked-early, asked-within, known}
use borrow.Author.Tests.{not-true, not-false}
use native.Mathlib.Omega.{arith}
use Rattle.track.proofs.steps.cursor_on.Goals as goal

pub returns-then-not-is_counted : goal.returns-then-not-is_counted
returns-then-not-is_counted c = cursor-plain _ _ _ _ c.is_counted.ensures (not-true c.is_counted.result c.if-not-is_counted.true-raw)

pub since_first-before-requires : goal.since_first-before-requires
since_first-before-requires c = let p = c.requires in
    (p.1.week, (in-calendar _ _ p.0 (omega (arith, p.1.high)), omega (arith, p.1.high)))

pub count_in-total-requires : goal.count_in-total-requires
count_in-total-requires c = let a = counted-asked c.args.terms c.args.flags.now c.args.x _ c.is_counted.ensures (not-false c.is_counted.result c.if-not-is_counted.false-raw) c.requires.0 c.requires.1 in
    (c.requires.1.row_length, (c.requires.0, omega (arith, c.since_first-before.ensures, c.days_of-all.ensures, c.if-before-eq0.true, asked-within _ _ _ a)))

pub returns-then-before-eq0 : goal.returns-then-before-eq0
returns-then-before-eq0 c = cursor-first _ _ _ _ _ _ _ c.is_counted.ensures (not-false c.is_counted.result c.if-not-is_counted.false-raw) c.since_first-before.ensures c.days_of-all.ensures c.if-before-eq0.true c.count_in-total.ensures

pub overflow_sub-x : goal.overflow_sub-x
overflow_sub-x c = let a = counted-asked c.args.terms c.args.flags.now c.args.x _ c.is_counted.ensures (not-false c.is_counted.result c.if-not-is_counted.false-raw) c.requires.0 c.requires.1 in
    omega (arith, c.since_first-before.ensures, asked-early _ _ _ a)

pub day_of-first-requires : goal.day_of-first-requires
day_of-first-requires c = let p = c.requires in
    omega (arith, p.1.high)

pub count_in-seen-requires : goal.count_in-seen-requires
count_in-seen-requires c = let a = counted-asked c.args.terms c.args.flags.now c.args.x _ c.is_counted.ensures (not-false c.is_counted.result c.if-not-is_counted.false-raw) c.requires.0 c.requires.1 in
    let at = number_is _ _ c.day_of-first.ensures in
    (c.requires.1.row_length, (day-again _ _ c.day_of-first.ensures, omega (arith, at, c.since_first-before.ensures, asked-early _ _ _ a, known _ _ _ a)))

pub count_in-total-requires-2 : goal.count_in-total-requires-2
count_in-total-requires-2 c = let a = counted-asked c.args.terms c.args.flags.now c.args.x _ c.is_counted.ensures (not-false c.is_counted.result c.if-not-is_counted.false-raw) c.requires.0 c.requires.1 in
    let at = number_is _ _ c.day_of-first.ensures in
    (c.requires.1.row_length, (day-again _ _ c.day_of-first.ensures, omega (arith, at, c.since_first-before.ensures, c.days_of-all.ensures, asked-within _ _ _ a)))

pub returns : goal.returns
returns c = cursor-made _ _ _ _ _ _ _ _ _ c.is_counted.ensures (not-false c.is_counted.result c.if-not-is_counted.false-raw) c.since_first-before.ensures c.days_of-all.ensures
    (number_is _ _ c.day_of-first.ensures) c.count_in-seen.ensures c.count_in-total-2.ensures
