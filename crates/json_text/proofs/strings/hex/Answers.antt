use Rattle.json_text.proofs.Laws.{some-hex}
use Rattle.std.proofs.Common.{arith}
use Rattle.json_text.proofs.strings.hex.Goals as goal

pub overflow_add-at : goal.overflow_add-at
overflow_add-at c = omega (arith, some-hex _ _ c.is_hex.ensures c.if-is_hex.true)

pub overflow_add-at-then-is_hex-2 : goal.overflow_add-at-then-is_hex-2
overflow_add-at-then-is_hex-2 c = omega (arith, some-hex _ _ c.is_hex-then-is_hex.ensures c.if-is_hex-2.true)

pub overflow_add-at-then-is_hex-3 : goal.overflow_add-at-then-is_hex-3
overflow_add-at-then-is_hex-3 c = omega (arith, some-hex _ _ c.is_hex-then-is_hex-2.ensures c.if-is_hex-3.true)

pub overflow_add-result : goal.overflow_add-result
overflow_add-result c = omega (arith, some-hex _ _ c.is_hex-then-is_hex-3.ensures c.if-is_hex-4.true)
