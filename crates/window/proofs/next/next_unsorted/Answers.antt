-- `window::next::next_unsorted` meets its contract.
use Rattle.window.proofs.OverrideLaws.{kept-starts, kept-ends, kept-later, kept-none, kept_here, kept-goes-on}
use native.Mathlib.Omega.{arith}
use mathlib.Core.Path.{sym, ◌∙◌}
use borrow.Author.Tests.{not-true, not-false}
use Rattle.window.proofs.next.next_unsorted.Goals as goal

pub loop-from-init : goal.loop-from-init
loop-from-init c = kept-starts _ _ _ _ c.requires.1

pub returns-then-to-x : goal.returns-then-to-x
returns-then-to-x c = kept-none _ _ _ _ _ c.loop-from.invariant _ c.nearest-x.ensures c.if-to-x.true

pub returns-then-not-is_named : goal.returns-then-not-is_named
returns-then-not-is_named c = kept_here _ _ _ _ _ c.loop-from.invariant _ c.nearest-x.ensures c.if-to-x.false (sym c.is_named.ensures ∙ not-true c.is_named.result c.if-not-is_named.true-raw)

pub loop-from-smaller : goal.loop-from-smaller
loop-from-smaller c = omega (arith, kept-later _ _ _ _ _ c.loop-from.invariant _ c.nearest-x.ensures)

pub loop-from-preserved : goal.loop-from-preserved
loop-from-preserved c = kept-goes-on _ _ _ _ _ c.loop-from.invariant _ c.nearest-x.ensures c.if-to-x.false (sym c.is_named.ensures ∙ not-false c.is_named.result c.if-not-is_named.false-raw)

pub returns : goal.returns
returns c = kept-ends _ _ _ _ _ c.loop-from.invariant c.loop-from-test.false
