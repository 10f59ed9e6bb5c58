-- `dates::load::put_track` meets its contract.
use Rattle.dates.specs.Inner.Load.{put}
use mathlib.Core.Path.{refl}
use Rattle.dates.proofs.load.put_track.Goals as goal

pub returns : goal.returns
unfolding put
returns c = refl
