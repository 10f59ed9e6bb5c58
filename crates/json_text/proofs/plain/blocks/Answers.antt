use Rattle.std.proofs.Common.{arith, ◌∙◌}
use Rattle.json_text.proofs.Blocks.{run_on}
use Rattle.json_text.proofs.plain.blocks.Goals as goal

pub loop-i-preserved : goal.loop-i-preserved
loop-i-preserved c = (omega arith, run_on 64 _ _ (c.block.ensures c.if-block.true) (omega arith) ∙ c.loop-i.invariant.1)
