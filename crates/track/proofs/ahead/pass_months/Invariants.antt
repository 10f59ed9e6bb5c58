-- `track::ahead::pass_months` meets its contract. The invariant: from here on the count ends where it ends from the start on.
use Rattle.track.specs.Inner.Ahead.{EndAt}
use Rattle.matcher.specs.Inner.Member.{falls_on_by}
use Rattle.rule.specs.Day.{day_at}
use Prim.Native.Nat.{◌+◌}
use mathlib.Core.Path.{◌≡◌}
use Rattle.track.proofs.ahead.pass_months.Given as goal

abbrev pub invariant-loop-left : goal.invariant-loop-left
invariant-loop-left l = (l.x ≡ day_at l.x.number) × EndAt (falls_on_by l.excluded l.end l.terms l.flags l.start) l.initial.x.number (l.initial.x.number + l.initial.left) l.initial.more l.x.number l.left l.more

abbrev pub decreases-loop-left : goal.decreases-loop-left
decreases-loop-left l = l.left
