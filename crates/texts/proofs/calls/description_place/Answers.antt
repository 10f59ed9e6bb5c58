-- `texts::calls::description_place` meets its contract.
use Rattle.texts.proofs.CallLaws.{description-shows}
use Rattle.texts.proofs.calls.description_place.Goals as goal

pub returns : goal.returns
returns c = description-shows _ _ c.ranges.date _ _ _ c.place_of.ensures
