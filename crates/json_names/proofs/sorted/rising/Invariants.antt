use Rattle.json_names.specs.Inner.Order.{Rising}
use Rattle.json_names.proofs.sorted.rising.Given as goal

abbrev pub invariant-loop-i : goal.invariant-loop-i
invariant-loop-i l = Rising l.text l.order l.i
