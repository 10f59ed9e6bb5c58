-- `replay::tallies::class_of` meets its contract: missing below -1, shut at -1, else reported.
use borrow.Author.Rules.{rules}
use Rattle.replay.proofs.TallyLaws.{class-missing, class-shut, class-reported}
use Rattle.replay.proofs.tallies.class_of.Goals as goal

pub returns-in-minus1 : goal.returns-in-minus1
returns-in-minus1 c = class-shut _ c.ranges.z (search rules)

pub returns-in_default : goal.returns-in_default
returns-in_default c = class-missing _ c.ranges.z (search rules)

pub returns-in-0-to-9223372036854775807 : goal.returns-in-0-to-9223372036854775807
returns-in-0-to-9223372036854775807 c = class-reported _ c.ranges.z (search rules)
