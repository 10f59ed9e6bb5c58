-- `window::next::none_in` meets its contract.
use Rattle.std.proofs.Common.{◌+◌}
use Rattle.window.specs.Inner.Next.{at_hit}
use Rattle.window.proofs.FirstLaws.{NoneAt}
use Rattle.window.proofs.next.none_in.Given as goal

abbrev pub invariant-loop-hit : goal.invariant-loop-hit
invariant-loop-hit l = NoneAt (at_hit l.hits) l.low l.high l.none (l.low + l.hit-index)
