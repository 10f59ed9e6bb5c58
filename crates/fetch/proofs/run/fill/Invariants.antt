-- `fetch::run::fill` meets its contract: the elements of the blocks that are done have their numbers.
use Prim.Native.Nat.{◌*◌, min}
use Rattle.fetch.specs.Inner.Filling.{Filled}
use Rattle.fetch.proofs.run.fill.Given as goal

abbrev pub invariant-loop-block : goal.invariant-loop-block
invariant-loop-block l = Filled l.sheet l.k (min l.n (256 * l.block)) l.initial.ids l.initial.starts l.initial.ends l.initial.marks l.ids l.starts l.ends l.marks
