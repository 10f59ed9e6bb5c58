-- `window::next::next_in` meets its contract.
use Rattle.window.proofs.NextLaws.{lower-min}
use Rattle.window.proofs.next.next_in.Goals as goal

pub returns : goal.returns
returns c = cc (lower-min c.next_hit.result c.args.pending)
