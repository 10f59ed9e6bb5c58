-- `zone::mark::in_order` meets its contract. The loop's invariant: the answer from here on is the whole answer.
use lib.ListN.{length}
use Rattle.zone.proofs.PassLaws.{Pass}
use Rattle.zone.proofs.mark.in_order.Given as goal

abbrev pub invariant-loop-instant : goal.invariant-loop-instant
invariant-loop-instant l = Pass l.initial' l.instants l.offsets l.before l.last (length l.yielded)
