-- `track::years::pass_far` meets its contract.
use Rattle.track.proofs.AheadLaws.{end-passes, end-begins, ahead-begins, ahead-joins}
use Rattle.track.proofs.YearLaws.{far-enough}
use Rattle.track.proofs.NeighbourLaws.{new-after}
use Rattle.track.specs.Inner.Years.{NewYear}
use Rattle.matcher.proofs.WalkLaws.{number_is, day-again, in-calendar}
use native.Mathlib.Omega.{arith}
use mathlib.Core.Path.{sym, ◌∙◌, subst}
use borrow.Author.Tests.{not-false}
use Rattle.track.proofs.years.pass_far.Goals as goal

pub returns-then-not-is_far : goal.returns-then-not-is_far
returns-then-not-is_far c = ahead-begins _ _ c.requires.1.day

pub overflow_sub-n : goal.overflow_sub-n
overflow_sub-n c = let p = c.requires.1 in
    let far = far-enough _ _ (sym c.is_far.ensures ∙ not-false c.is_far.result c.if-not-is_far.false-raw) in
    omega (arith, (in-calendar _ _ p.day (omega (arith, p.within, far))).yearday)

pub count_span-found-requires : goal.count_span-found-requires
count_span-found-requires c = let p = c.requires.1 in
    let far = far-enough _ _ (sym c.is_far.ensures ∙ not-false c.is_far.result c.if-not-is_far.false-raw) in
    let facts = in-calendar _ _ p.day (omega (arith, p.within, far)) in
    record {
      row_length = p.row_length;
      week = p.week;
      day = p.day;
      low = omega (arith, p.low, p.after);
      known = omega (arith, p.within, far, facts.yeardays);
      after = p.after;
      starts = p.starts;
    }

pub returns-then-more-found : goal.returns-then-more-found
returns-then-more-found c = ahead-begins _ _ c.requires.1.day

pub days_later-requires : goal.days_later-requires
days_later-requires c = let p = c.requires.1 in
    let far = far-enough _ _ (sym c.is_far.ensures ∙ not-false c.is_far.result c.if-not-is_far.false-raw) in
    let facts = in-calendar _ _ p.day (omega (arith, p.within, far)) in
    (p.day, (omega (arith, facts.yearday), omega (arith, p.within, far, facts.yeardays)))

pub overflow_sub-begin : goal.overflow_sub-begin
overflow_sub-begin c = let p = c.requires.1 in
    let far = far-enough _ _ (sym c.is_far.ensures ∙ not-false c.is_far.result c.if-not-is_far.false-raw) in
    let facts = in-calendar _ _ p.day (omega (arith, p.within, far)) in
    omega (arith, far, facts.yeardays)

pub pass_years-requires : goal.pass_years-requires
pass_years-requires c = let p = c.requires in
    let r = p.1 in
    let far = far-enough _ _ (sym c.is_far.ensures ∙ not-false c.is_far.result c.if-not-is_far.false-raw) in
    let facts = in-calendar _ _ r.day (omega (arith, r.within, far)) in
    let e = c.days_later.ensures in
    let at = number_is _ _ e in (
      (p.0, (subst NewYear (sym e) (new-after _ r.day (omega (arith, r.within, far, facts.yeardays))), omega (arith, at, r.after, facts.yearday))),
      record {
        row_length = r.row_length;
        week = r.week;
        low = r.low;
        day = day-again _ _ e;
        after = omega (arith, at, r.after);
        within = omega (arith, at, r.within, far, facts.yeardays);
        starts = r.starts;
        begun = r.begun;
      },
    )

pub returns : goal.returns
returns c = let r = c.requires.1 in
    let far = far-enough _ _ (sym c.is_far.ensures ∙ not-false c.is_far.result c.if-not-is_far.false-raw) in
    let facts = in-calendar _ _ r.day (omega (arith, r.within, far)) in
    let e = c.days_later.ensures in
    ahead-joins _ _ _ _ _ _
    (record { day = day-again _ _ e; walk = end-passes _ _ _ _ _ _ _ (end-begins _ _ _ _) _ _ _ (number_is _ _ e) (omega (arith, far, facts.yeardays)) c.count_span-found.ensures c.if-more-found.false })
    c.pass_years.ensures
