-- `replay::spans::mark_all` meets its contract: the spans from here on are still to be marked.
use Prim.Native.Nat.{◌-◌}
use mathlib.Core.Path.{◌≡◌}
use Rattle.sheet.specs.Runs.{tabulate}
use Rattle.weeks.specs.Inner.Marks.{span_at, raise_all}
use Rattle.replay.proofs.spans.mark_all.Given as goal

abbrev pub invariant-loop-k : goal.invariant-loop-k
invariant-loop-k l = raise_all (tabulate (span_at l.s l.b) l.k (l.n - l.k)) l.p ≡ raise_all (tabulate (span_at l.s l.b) 0 l.n) l.initial.p
