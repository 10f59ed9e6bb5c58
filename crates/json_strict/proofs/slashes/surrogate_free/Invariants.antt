use Rattle.std.proofs.Common.{◌≡◌}
use Rattle.json_strict.specs.Inner.Slashes.{NoFront}
use Rattle.json_strict.proofs.slashes.surrogate_free.Given as goal

abbrev pub invariant-loop-i : goal.invariant-loop-i
invariant-loop-i l = l.any ≡ 0 → NoFront l.text l.i
