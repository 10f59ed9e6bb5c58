-- `window::collect::collect_run` meets its contract: each turn puts the next id after those before, until none is left or the slice is full.
use Rattle.std.proofs.Common.{◌≡◌, length, arith}
use Rattle.std.proofs.lemmas.List.{set-get_or}
use Rattle.window.proofs.RunLaws.{there-is, renewed-next}
use Rattle.window.proofs.HandLaws.{hand-start, hand-one, hand-full, hand-none}
use Rattle.window.proofs.collect.collect_run.Goals as goal

pub next_kept-pending-requires : goal.next_kept-pending-requires
next_kept-pending-requires c = let p = c.requires in
    (c.rises-sorted.ensures.0, (p.overrides, p.stretch.order))

pub loop-n-init : goal.loop-n-init
loop-n-init c = (hand-start _ _ _ _ c.requires.stretch.order, c.next_kept-pending.ensures)

pub next_in-x-requires : goal.next_in-x-requires
next_in-x-requires c = let i = c.loop-n.invariant.0 in
    let s = c.requires.stretch in
    record { low = omega (arith, i.low, s.low); order = i.order; high = s.high; days = s.days }

pub returns-then-to-x : goal.returns-then-to-x
returns-then-to-x c = let i = c.loop-n.invariant in
    rw (set-get_or c.loop-n.out c.loop-n.n 0) (hand-none _ _ _ _ _ _ _ i.0 _ (there-is _ _ _ _ _ _ _ _ _ i.0.order i.1 c.next_in-x.ensures) c.if-to-x.true)

pub renew-pending-requires : goal.renew-pending-requires
renew-pending-requires c = (c.rises-sorted.ensures.0, (c.requires.overrides, omega (arith, c.if-to-x.false)))

pub loop-n-preserved : goal.loop-n-preserved
loop-n-preserved c = let i = c.loop-n.invariant in
    let x = there-is _ _ _ _ _ _ _ _ _ i.0.order i.1 c.next_in-x.ensures in
    let more = c.if-to-x.false in
    (hand-one _ _ _ _ _ _ _ i.0 _ x more (omega (arith, i.0.size, c.loop-n-test.true)), renewed-next _ _ _ _ _ _ _ (omega (arith, x.low)) (omega arith) i.1 c.renew-pending.ensures)

pub returns : goal.returns
returns c = let i = c.loop-n.invariant.0 in
    let all : length c.loop-n.out ≡ c.loop-n.n = omega (arith, i.few, i.size, c.loop-n-test.false) in
    rw all (hand-full _ _ _ _ _ _ _ c.loop-n.invariant.0 c.requires.room (omega arith))
