-- `texts::calls::title_place` meets its contract.
use Rattle.texts.proofs.CallLaws.{title-shows}
use Rattle.texts.proofs.calls.title_place.Goals as goal

pub returns : goal.returns
returns c = title-shows _ _ c.ranges.date _ _ _ c.place_of.ensures
