-- `texts::parts::part_at` meets its contract.
use mathlib.Core.Path.{refl}
use Rattle.call_definitions.specs.Call.{place_of}
use Rattle.texts.proofs.PartLaws.{none-placed}
use Rattle.texts.proofs.parts.part_at.Goals as goal

pub returns-in-None : goal.returns-in-None
unfolding place_of
returns-in-None c = rw c.in-None.is (none-placed _ _ _ c.between.ensures refl)

pub returns-in-Some : goal.returns-in-Some
unfolding place_of
returns-in-Some c = rw c.in-Some.is c.part_from.ensures
