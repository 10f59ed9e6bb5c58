-- `texts::calls::place_of` meets its contract.
use Rattle.texts.proofs.CallLaws.{told-shows}
use Rattle.texts.proofs.calls.place_of.Goals as goal

pub returns : goal.returns
returns c = told-shows _ c.args.title _ c.ranges.date _ c.told-found.result c.told-found.ensures
