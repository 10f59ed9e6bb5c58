use Rattle.json_walk.specs.Strings.{bytes_at, same}
use Rattle.std.proofs.Common.{◌≡◌, ◌-◌}
use Rattle.json_walk.proofs.strings.same_bytes.Given as goal

abbrev pub invariant-loop : goal.invariant-loop
invariant-loop l = same (bytes_at (l.count - l.counter) l.text l.i) (bytes_at (l.count - l.counter) l.other l.j) ≡ same (bytes_at l.count l.text l.a) (bytes_at l.count l.other l.b)
