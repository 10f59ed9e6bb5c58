-- `track::skips::gap` meets its contract.
use Rattle.track.proofs.SkipLaws.{without-between}
use Rattle.track.proofs.StepLaws.{held-asked}
use native.Mathlib.Omega.{arith}
use Rattle.track.proofs.skips.gap.Goals as goal

pub place_gap-requires : goal.place_gap-requires
place_gap-requires c = (c.if-placed.true, c.requires)

pub returns-then-placed : goal.returns-then-placed
returns-then-placed c = c.place_gap.ensures

pub skip-n-requires : goal.skip-n-requires
skip-n-requires c = held-asked _ _ _ c.requires.0

pub returns-then-n-gt0 : goal.returns-then-n-gt0
returns-then-n-gt0 c = without-between _ _ _ c.skip-n.ensures (λ none. omega (arith, c.if-n-gt0.true))

pub to_next-requires : goal.to_next-requires
to_next-requires c = held-asked _ _ _ c.requires.0

pub returns : goal.returns
returns c = c.to_next.ensures
