-- `zone::range::within` meets its contract: the size of the number is at most k.
use Rattle.std.proofs.Common.{refl}
use mir.Facts.{to_z-of_z}
use Rattle.zone.specs.Table.{within}
use Rattle.zone.proofs.range.within.Goals as goal

pub returns : goal.returns
unfolding within
returns c = rw (c.unsigned_abs.ensures.value, to_z-of_z c.ranges.z) refl
