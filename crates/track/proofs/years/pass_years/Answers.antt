-- `track::years::pass_years` meets its contract. The invariant: from here on the count ends where it ends from the beginning on, and what
-- is kept of the years is right.
use Rattle.track.proofs.AheadLaws.{end-passes, end-begins}
use Rattle.track.proofs.YearLaws.{year-asked, year-long, year-short, kept-none}
use Rattle.track.proofs.NeighbourLaws.{next-new}
use Rattle.track.specs.Inner.Years.{NewYear}
use Rattle.matcher.proofs.WalkLaws.{number_is}
use native.Mathlib.Omega.{arith}
use mathlib.Core.Path.{refl, sym, subst}
use Rattle.track.proofs.years.pass_years.Goals as goal

pub loop-left-init : goal.loop-left-init
loop-left-init c = let p = c.requires in
    (p.0.1, (end-begins _ _ _ _, kept-none _ _ _ _ refl))

pub year_count-found-requires : goal.year_count-found-requires
year_count-found-requires c = let w = c.loop-left.invariant in
    let p = c.requires in
    let y = year-asked c.args.end c.args.terms _ c.args.start _ p.1 p.0.0 _ w.0.0 w.0.1 (omega (arith, w.1.0.ends, p.1.within, c.loop-left-test.true)) in
    (y, w.1.1)

pub returns-then-more-found : goal.returns-then-more-found
returns-then-more-found c = let w = c.loop-left.invariant in
    record { day = w.0.0.day; walk = w.1.0 }

pub overflow_sub-left : goal.overflow_sub-left
overflow_sub-left c = let w = c.loop-left.invariant in
    let p = c.requires in
    let y = year-asked c.args.end c.args.terms _ c.args.start _ p.1 p.0.0 _ w.0.0 w.0.1 (omega (arith, w.1.0.ends, p.1.within, c.loop-left-test.true)) in
    omega (arith, year-short _ _ y.begins, c.loop-left-test.true)

pub days_later-x-requires : goal.days_later-x-requires
days_later-x-requires c = let w = c.loop-left.invariant in
    let p = c.requires in
    let y = year-asked c.args.end c.args.terms _ c.args.start _ p.1 p.0.0 _ w.0.0 w.0.1 (omega (arith, w.1.0.ends, p.1.within, c.loop-left-test.true)) in
    (w.0.0.day, (omega (arith, year-long _ _ y.begins), omega (arith, year-short _ _ y.begins, w.1.0.ends, p.1.within, c.loop-left-test.true)))

pub loop-left-smaller : goal.loop-left-smaller
loop-left-smaller c = let w = c.loop-left.invariant in
    let p = c.requires in
    let y = year-asked c.args.end c.args.terms _ c.args.start _ p.1 p.0.0 _ w.0.0 w.0.1 (omega (arith, w.1.0.ends, p.1.within, c.loop-left-test.true)) in
    omega (arith, year-long _ _ y.begins, c.loop-left-test.true)

pub loop-left-preserved : goal.loop-left-preserved
loop-left-preserved c = let w = c.loop-left.invariant in
    let p = c.requires in
    let y = year-asked c.args.end c.args.terms _ c.args.start _ p.1 p.0.0 _ w.0.0 w.0.1 (omega (arith, w.1.0.ends, p.1.within, c.loop-left-test.true)) in
    let b = y.begins in
    let e = c.days_later-x.ensures in
    let found = c.year_count-found.ensures in
    ((subst NewYear (sym e) (next-new _ b.new b.low b.high), omega (arith, number_is _ _ e, w.0.1)), (end-passes _ _ _ _ _ _ _ w.1.0 _ _ _ (number_is _ _ e) (omega (arith, year-short _ _ b, c.loop-left-test.true)) found.0 c.if-more-found.false, found.1))

pub returns : goal.returns
returns c = let w = c.loop-left.invariant in
    record { day = w.0.0.day; walk = w.1.0 }
