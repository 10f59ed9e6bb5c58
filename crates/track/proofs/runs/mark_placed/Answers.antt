-- `track::runs::mark_placed` meets its contract. The invariant: what is marked, and what is left to mark, make the whole.
use Rattle.track.proofs.RunLaws.{mark-starts, mark-yes, mark-goes-by, mark-rests, mark-ends}
use Rattle.track.proofs.StepLaws.{at-number, at-leap, held-here}
use Rattle.track.proofs.SkipLaws.{between-all}
use Rattle.track.specs.Inner.Steps.{cursor_at}
use Rattle.matcher.specs.Inner.Walk.{picks_on_by}
use lib.ListN.{length-set}
use Prim.Native.Nat.{◌+◌}
use native.Mathlib.Omega.{arith}
use mathlib.Core.Path.{◌≡◌, sym, ap, ◌∙◌}
use Rattle.track.proofs.runs.mark_placed.Goals as goal

pub least_days-need-requires : goal.least_days-need-requires
least_days-need-requires c = c.requires.row_length

pub cursor_at-c-requires : goal.cursor_at-c-requires
cursor_at-c-requires c = let a = c.requires in
    record { row_length = a.row_length; week = a.week; low = a.low; high = omega (arith, a.high) }

pub loop-i-init : goal.loop-i-init
loop-i-init c = let here : c.args.first + 0 ≡ c.args.first = omega arith in
    (c.cursor_at-c.ensures ∙ ap (cursor_at _ _) (sym here), mark-starts _ _ _ _)

pub picks-requires : goal.picks-requires
picks-requires c = let m = c.loop-i.invariant in
    let a = c.requires in
    let held = held-here _ _ _ _ a.row_length a.week (omega (arith, a.low)) (omega (arith, m.1.size, c.loop-i-test.true, a.high)) m.0 in
    held

pub advance-c-requires : goal.advance-c-requires
advance-c-requires c = let m = c.loop-i.invariant in
    let a = c.requires in
    let held = held-here _ _ _ _ a.row_length a.week (omega (arith, a.low)) (omega (arith, m.1.size, c.loop-i-test.true, a.high)) m.0 in
    held

pub loop-i-smaller-then-picks : goal.loop-i-smaller-then-picks
loop-i-smaller-then-picks c = let size = length-set c.loop-i.hits c.loop-i.i c.args.value in
    omega (arith, size, c.loop-i-test.true)

pub loop-i-preserved-then-picks : goal.loop-i-preserved-then-picks
loop-i-preserved-then-picks c = let m = c.loop-i.invariant in
    let next : c.args.first + c.loop-i.i + 1 ≡ c.args.first + (c.loop-i.i + 1) = omega arith in (
      at-leap _ _ _ _ _ 1 m.0 c.advance-c.ensures ∙ ap (cursor_at _ _) next,
      mark-yes _ _ _ _ _ _ m.1 c.loop-i-test.true
          (ap (picks_on_by _ _) (sym (at-number _ _ _ _ m.0)) ∙ (sym c.picks.ensures ∙ c.if-picks.true)),
    )

pub gap-gap-requires : goal.gap-gap-requires
gap-gap-requires c = let m = c.loop-i.invariant in
    let a = c.requires in
    let held = held-here _ _ _ _ a.row_length a.week (omega (arith, a.low)) (omega (arith, m.1.size, c.loop-i-test.true, a.high)) m.0 in
    (held, c.least_days-need.ensures)

pub overflow_add-i-else-picks : goal.overflow_add-i-else-picks
overflow_add-i-else-picks c = omega (arith, c.gap-gap.ensures.few, c.loop-i.invariant.1.size, c.loop-i-test.true, c.requires.high)

pub returns-then-hits-i : goal.returns-then-hits-i
returns-then-hits-i c = let m = c.loop-i.invariant in
    mark-rests _ _ _ _ _ _ _ _ m.1 (at-number _ _ _ _ m.0) c.if-hits-i.true
    (between-all _ _ _ c.gap-gap.ensures (sym c.picks.ensures ∙ c.if-picks.false))

pub leap-c-requires : goal.leap-c-requires
leap-c-requires c = let m = c.loop-i.invariant in
    let a = c.requires in
    let held = held-here _ _ _ _ a.row_length a.week (omega (arith, a.low)) (omega (arith, m.1.size, c.loop-i-test.true, a.high)) m.0 in
    let at = at-number _ _ _ _ m.0 in
    (held, (c.gap-gap.ensures.more, omega (arith, at, m.1.size, c.if-hits-i.false, a.high)))

pub loop-i-smaller : goal.loop-i-smaller
loop-i-smaller c = omega (arith, c.gap-gap.ensures.more, c.if-hits-i.false)

pub loop-i-preserved : goal.loop-i-preserved
loop-i-preserved c = let m = c.loop-i.invariant in
    let next : c.args.first + c.loop-i.i + c.gap-gap.result ≡ c.args.first + (c.loop-i.i + c.gap-gap.result) = omega arith in (
      at-leap _ _ _ _ _ _ m.0 c.leap-c.ensures ∙ ap (cursor_at _ _) next,
      mark-goes-by _ _ _ _ _ _ _ _ m.1 (at-number _ _ _ _ m.0) c.if-hits-i.false
          (between-all _ _ _ c.gap-gap.ensures (sym c.picks.ensures ∙ c.if-picks.false)),
    )

pub returns : goal.returns
returns c = mark-ends _ _ _ _ _ _ c.loop-i.invariant.1 c.loop-i-test.false
