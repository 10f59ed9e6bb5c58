-- `track::skips::skip_early` meets its contract.
use Rattle.track.proofs.SkipLaws.{without-none}
use Rattle.track.proofs.skips.skip_early.Goals as goal

pub returns-then-seen-gt0 : goal.returns-then-seen-gt0
returns-then-seen-gt0 c = without-none _ _
