-- `window::next::past_quiet` meets its contract.
use Rattle.std.proofs.Common.{arith}
use Rattle.window.proofs.HitLaws.{true-then, true-passed}
use Rattle.window.proofs.next.past_quiet.Goals as goal

pub returns-then-none_in : goal.returns-then-none_in
returns-then-none_in c = true-then _ _ _ _ (true-passed _ _ 16 (omega arith) _ c.none_in.ensures c.if-none_in.true) c.past_blocks.ensures
