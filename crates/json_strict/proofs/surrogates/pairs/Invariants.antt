use Rattle.json_strict.specs.Surrogates.{pairs_at}
use Rattle.std.proofs.Common.{◌≡◌, ◌-◌, length}
use Rattle.json_strict.proofs.surrogates.pairs.Given as goal

abbrev pub invariant-loop : goal.invariant-loop
invariant-loop l = pairs_at (l.end - l.counter) l.text l.i ≡ pairs_at (length l.text) l.text 0
