-- `texts::calls::description` meets its contract.
use Rattle.texts.proofs.CallLaws.{description-tells}
use Rattle.texts.proofs.calls.description.Goals as goal

pub returns : goal.returns
returns c = description-tells _ _ c.ranges.date _ _ c.text_of.ensures
