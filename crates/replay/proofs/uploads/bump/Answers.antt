-- `replay::uploads::bump` meets its contract: a place that holds no uploads holds one, another one more.
use Rattle.replay.proofs.UploadLoops.{bump-is}
use Rattle.replay.proofs.uploads.bump.Goals as goal

pub returns : goal.returns
returns c = bump-is c.args.z c.ranges.z c.requires c.max.result c.max.type_inv c.max.ensures.value
