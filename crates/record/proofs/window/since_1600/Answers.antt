-- `record::window::since_1600` meets its contract, by the parts of the number.
use Rattle.std.proofs.Common.{arith}
use Rattle.std.proofs.lemmas.Grind.{common_steps}
use Rattle.record.proofs.WindowLaws.{since-parts}
use Rattle.record.proofs.window.since_1600.Goals as goal

pub returns : goal.returns
returns c = grind (arith, common_steps, since-parts)
