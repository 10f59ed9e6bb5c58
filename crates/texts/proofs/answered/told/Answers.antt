-- `texts::answered::told` meets its contract: a table of zeros says nothing.
use Rattle.json_ends.proofs.Laws.{ends-none}
use Rattle.texts.proofs.CallLaws.{date-passed}
use Rattle.texts.proofs.answered.told.Goals as goal

pub told_in-requires : goal.told_in-requires
told_in-requires c = ends-none _ 2048

pub returns-then-text-le2048 : goal.returns-then-text-le2048
returns-then-text-le2048 c = date-passed _ c.args.title _ c.ranges.date _ _ c.told_in.ensures

pub told_in-requires-2 : goal.told_in-requires-2
told_in-requires-2 c = ends-none _ 65536

pub returns : goal.returns
returns c = date-passed _ c.args.title _ c.ranges.date _ _ c.told_in-2.ensures
