-- `track::skips::month_out` meets its contract.
use Rattle.track.proofs.SkipLaws.{without-none, behind-month, months-without}
use Rattle.track.specs.Inner.Skips.{Without, month_on}
use Rattle.matcher.proofs.WalkLaws.{in-calendar}
use native.Mathlib.Omega.{arith}
use mathlib.Core.Path.{sym, subst}
use Prim.Native.Nat.{ℕ, ◌-◌}
use Rattle.track.proofs.skips.month_out.Goals as goal

pub next_month-next-requires : goal.next_month-next-requires
next_month-next-requires c = let p = c.requires in
    (p.0, (in-calendar _ _ p.1.0 (omega (arith, p.1.1))).month_high)

pub returns-then-next-month : goal.returns-then-next-month
returns-then-next-month c = without-none _ _

pub month_start-requires : goal.month_start-requires
month_start-requires c = c.next_month-next.ensures.high

pub overflow_sub-result : goal.overflow_sub-result
overflow_sub-result c = let p = c.requires in
    let unset = c.next_month-next.ensures in
    omega (arith, c.month_start.ensures, behind-month _ p.1.0 p.1.1 _ unset.high c.if-next-month.false)

pub returns : goal.returns
returns c = let p = c.requires in
    let a = c.args in
    subst (λ (s : ℕ). Without (month_on a.flags.now) a.x.number (s - a.x.yearday)) (sym c.month_start.ensures)
    (months-without _ p.1.0 p.1.1 _ _ c.next_month-next.ensures)
