-- `source::counting::holds_days` meets its contract.
use native.Mathlib.Omega.{arith}
use mathlib.Core.Path.{◌∙◌}
use borrow.Author.Tests.{lt-leb}
use Rattle.window.proofs.HitLaws.{day-order}
use Rattle.source.proofs.RoomLaws.{rest-fits, none-fits}
use Rattle.source.proofs.counting.holds_days.Goals as goal

pub overflow_sub-days : goal.overflow_sub-days
overflow_sub-days c = omega (arith, c.day_from-2.ensures, c.day_from.ensures, day-order c.args.start c.args.from c.args.to c.requires.order)

pub returns-then-days-places : goal.returns-then-days-places
returns-then-days-places c = rw (← c.day_from-2.ensures, ← c.day_from.ensures) (rest-fits _ _ _ c.if-days-places.true)

pub returns-else-days-places : goal.returns-else-days-places
returns-else-days-places c = rw (← c.day_from-2.ensures, ← c.day_from.ensures) (lt-leb _ _ c.if-days-places.false ∙ none-fits _ c.args.overrides _ c.if-days-places.false)
