use Rattle.json_text.proofs.Laws.{some-escaped}
use Rattle.std.proofs.Common.{arith}
use Rattle.json_text.proofs.strings.escape.Goals as goal

pub overflow_add-result : goal.overflow_add-result
overflow_add-result c = omega (arith, some-escaped _ _ c.is_escaped.ensures c.if-is_escaped.true)
