-- `track::skips::periods_out` meets its contract.
use Rattle.track.proofs.SkipLaws.{without-none, over-less, periods-without}
use native.Mathlib.Omega.{arith}
use Rattle.track.proofs.skips.periods_out.Goals as goal

pub returns-then-interval-le1 : goal.returns-then-interval-le1
returns-then-interval-le1 c = (without-none _ _, omega arith)

pub returns-then-period-start : goal.returns-then-period-start
returns-then-period-start c = (without-none _ _, omega arith)

pub returns-then-over-eq0 : goal.returns-then-over-eq0
returns-then-over-eq0 c = (without-none _ _, omega arith)

pub overflow_sub-left : goal.overflow_sub-left
overflow_sub-left c = let less = over-less c.args.terms c.args.period c.if-interval-le1.false c.if-period-start.false in
    omega (arith, less)

pub returns : goal.returns
returns c = let least = c.min.ensures in
    (periods-without c.args.terms c.args.period c.if-interval-le1.false c.if-period-start.false c.if-over-eq0.false _ (omega (arith, least)) (omega (arith, least)), omega (arith, least))
