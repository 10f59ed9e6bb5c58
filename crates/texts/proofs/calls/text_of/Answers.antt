-- `texts::calls::text_of` meets its contract.
use Rattle.texts.proofs.CallLaws.{told-tells}
use Rattle.texts.proofs.calls.text_of.Goals as goal

pub returns : goal.returns
returns c = told-tells _ c.args.title _ c.ranges.date _ c.told-found.result c.told-found.ensures
