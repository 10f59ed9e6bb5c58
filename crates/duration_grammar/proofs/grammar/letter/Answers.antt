-- `duration_grammar::grammar::letter` meets its contract: the definition's tests in its order.
use native.Mathlib.Omega.{arith}
use Rattle.duration_grammar.proofs.Laws.{some-letter}
use Rattle.duration_grammar.proofs.grammar.letter.Goals as goal

pub overflow_add-result : goal.overflow_add-result
overflow_add-result c = omega (arith, some-letter _ _ _ c.upper.ensures c.if-upper-c.false (omega arith))
