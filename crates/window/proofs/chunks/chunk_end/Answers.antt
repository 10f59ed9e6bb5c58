-- `window::chunks::chunk_end` meets its contract.
use Rattle.std.proofs.Common.{◌+◌, ◌*◌, ◌/◌}
use Rattle.window.specs.Inner.Chunks.{chunk_end}
use Rattle.window.proofs.NextLaws.{lower-min}
use Rattle.window.proofs.chunks.chunk_end.Goals as goal

pub returns : goal.returns
unfolding chunk_end
returns c = cc (lower-min c.args.to (86400 * (c.args.at / 86400 + c.args.k)))
