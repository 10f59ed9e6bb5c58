-- `window::collect::collect_run` meets its contract: each turn puts the next id after those before, until none is left or the slice is full.
use Rattle.std.proofs.Common.{◌≡◌}
use Rattle.dates.specs.Inner.Overrides.{is_kept}
use Rattle.window.specs.Inner.Next.{next_of, is_there}
use Rattle.window.proofs.HandLaws.{HandAt}
use Rattle.window.proofs.collect.collect_run.Given as goal

abbrev pub invariant-loop-n : goal.invariant-loop-n
invariant-loop-n l = HandAt (is_there l.hits l.first l.start l.ids l.gone) l.from l.to l.initial.out l.out l.n l.at × (l.pending ≡ next_of (is_kept l.ids l.gone) l.at l.to)
