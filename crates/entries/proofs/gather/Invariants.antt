-- The loop of `gather`: what it has still to store leaves what all stores would.
use Rattle.std.proofs.Common.{◌≡◌}
use lib.ListN.{take}
use Rattle.entries.proofs.GatherLaws.{stores}
use Rattle.entries.proofs.gather.Given as goal

abbrev pub invariant-loop-i : goal.invariant-loop-i
invariant-loop-i l = let ys = take l.n l.entries in record {
  instants_same : stores (λ e. e.instant) l.instants l.i ys ≡ stores (λ e. e.instant) l.initial.instants 0 ys;
  offsets_same : stores (λ e. e.offset) l.offsets l.i ys ≡ stores (λ e. e.offset) l.initial.offsets 0 ys;
}
