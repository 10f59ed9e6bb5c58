use Rattle.std.proofs.Common.{◌≡◌}
use Rattle.json_names.specs.Inner.Slashes.{NoSlash}
use Rattle.json_names.proofs.slashes.slash_free.Given as goal

abbrev pub invariant-loop-b : goal.invariant-loop-b
invariant-loop-b l = l.any ≡ 0 → NoSlash l.text l.b-index
