use Rattle.json_walk.specs.Strings.{bytes_at, slashed}
use Rattle.std.proofs.Common.{◌≡◌, ◌-◌}
use Rattle.json_walk.proofs.strings.slash_in.Given as goal

abbrev pub invariant-loop : goal.invariant-loop
invariant-loop l = slashed (bytes_at (l.count - l.counter) l.text l.i) ≡ slashed (bytes_at l.count l.text l.a)
