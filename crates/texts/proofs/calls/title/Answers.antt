-- `texts::calls::title` meets its contract.
use Rattle.texts.proofs.CallLaws.{title-tells}
use Rattle.texts.proofs.calls.title.Goals as goal

pub returns : goal.returns
returns c = title-tells _ _ c.ranges.date _ _ c.text_of.ensures
