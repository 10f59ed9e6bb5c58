-- `track::places::least_days` meets its contract. The invariant: the positions before k are not set.
use Rattle.track.proofs.PlaceLaws.{scan-starts, scan-goes-on, most-few}
use Prim.Native.Nat.{◌+◌}
use mathlib.Core.Path.{◌≡◌, subst}
use Rattle.track.specs.Inner.Places.{Unset}
use native.Mathlib.Omega.{arith}
use Rattle.track.proofs.places.least_days.Goals as goal

pub returns-then-not-terms : goal.returns-then-not-terms
returns-then-not-terms c = scan-starts _

pub overflow_add-k-end : goal.overflow_add-k-end
overflow_add-k-end c = omega (arith, c.most_days-most.ensures, most-few c.args.terms.frequency)

pub bounds-flags-k : goal.bounds-flags-k
bounds-flags-k c = omega (arith, c.most_days-most.ensures, c.loop-k-test.true, most-few c.args.terms.frequency, c.requires)

pub bounds-flags-k-else-flags-k : goal.bounds-flags-k-else-flags-k
bounds-flags-k-else-flags-k c = omega (arith, c.most_days-most.ensures, c.loop-k-test.true, most-few c.args.terms.frequency, c.requires)

pub loop-k-init : goal.loop-k-init
loop-k-init c = scan-starts _

pub loop-k-preserved : goal.loop-k-preserved
loop-k-preserved c = scan-goes-on _ _ c.loop-k.invariant c.if-flags-k.false c.if-flags-k-2.false

pub returns : goal.returns
returns c =
    let over : c.loop-k.k ≡ c.most_days-most.result + 1 = omega (arith, c.loop-k-test.false, c.loop-k.auto.k-end) in
    subst (Unset c.args.flags.now) over c.loop-k.invariant
