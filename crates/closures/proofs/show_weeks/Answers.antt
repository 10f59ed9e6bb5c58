-- `closures::show_weeks` goes on by weeks, each of which the closure reaches.
use Rattle.std.proofs.Common.{◌<◌, arith}
use Rattle.gregorian.proofs.DayLaws.{weekday-below}
use Rattle.closures.proofs.show_weeks.Goals as goal

pub show_week-requires : goal.show_week-requires
show_week-requires g c =
    let since : c.weekday.result < 7 = omega (arith, c.weekday.ensures, weekday-below c.args.a) in
    let first = c.in-Some.ensures in
    (c.requires.0, (c.requires.1, (omega (arith, since, first.0, first.1, c.requires.1, c.loop-week-test.true), omega (arith, since, first.0, first.1))))
