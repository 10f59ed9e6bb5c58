-- `track::leaps::days_later` meets its contract.
use Rattle.matcher.proofs.WalkLaws.{number_is, day-again, in-calendar}
use Rattle.rule.specs.Day.{day_at}
use native.Mathlib.Omega.{arith}
use mathlib.Core.Path.{◌≡◌, ap, ◌∙◌}
use Prim.Native.Nat.{◌+◌, ◌-◌}
use Rattle.track.proofs.leaps.days_later.Goals as goal

pub overflow_add-x : goal.overflow_add-x
overflow_add-x c = let p = c.requires in
    let facts = in-calendar _ _ p.0 (omega (arith, p.1.1)) in
    omega (arith, facts.monthday_high, facts.monthdays, p.1.1)

pub overflow_add-x-then-x-near : goal.overflow_add-x-then-x-near
overflow_add-x-then-x-near c = let p = c.requires in
    let facts = in-calendar _ _ p.0 (omega (arith, p.1.1)) in
    omega (arith, facts.yearday, facts.yeardays, p.1.1)

pub new_year-requires : goal.new_year-requires
new_year-requires c = let p = c.requires in
    (p.0, omega (arith, c.if-x-k.true, p.1.1))

pub returns-then-x-k : goal.returns-then-x-k
returns-then-x-k c = let there : c.args.x.number + (c.args.x.yeardays - c.args.x.yearday) ≡ c.args.x.number + c.args.k = omega (arith, c.if-x-k.true) in
    c.new_year.ensures ∙ ap day_at there

pub overflow_add-x-then-x-near-2 : goal.overflow_add-x-then-x-near-2
overflow_add-x-then-x-near-2 c = let p = c.requires in
    let facts = in-calendar _ _ p.0 (omega (arith, p.1.1)) in
    omega (arith, facts.yearday, facts.yeardays, p.1.1)

pub in_year-requires : goal.in_year-requires
in_year-requires c = let p = c.requires in
    (p.0, (p.1.1, c.if-x-k-2.true))

pub returns-then-x-k-2 : goal.returns-then-x-k-2
returns-then-x-k-2 c = c.in_year.ensures

pub next_day-requires : goal.next_day-requires
next_day-requires c = let p = c.requires in
    let at = number_is _ _ c.in_month-last.ensures in
    (day-again _ _ c.in_month-last.ensures, omega (arith, at, p.1.0, p.1.1))

pub returns : goal.returns
returns c = let p = c.requires in
    let at = number_is _ _ c.in_month-last.ensures in
    let there : c.in_month-last.result.number + 1 ≡ c.args.x.number + c.args.k = omega (arith, at, p.1.0) in
    c.next_day.ensures ∙ ap day_at there
