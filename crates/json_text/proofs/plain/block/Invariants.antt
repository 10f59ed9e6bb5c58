use Rattle.std.proofs.Common.{◌≡◌}
use Rattle.json_text.specs.Inner.Plain.{PlainRun}
use Rattle.json_text.proofs.plain.block.Given as goal

abbrev pub invariant-loop-b : goal.invariant-loop-b
invariant-loop-b l = l.any ≡ 0 → PlainRun l.text l.at l.b-index
