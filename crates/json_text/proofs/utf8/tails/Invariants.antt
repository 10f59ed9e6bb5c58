use Rattle.std.proofs.Common.{◌≡◌, ◌-◌}
use Rattle.json_text.specs.Utf8.{tails_at}
use Rattle.json_text.proofs.utf8.tails.Given as goal

abbrev pub invariant-loop : goal.invariant-loop
invariant-loop l = tails_at (l.count - l.counter) l.text l.i ≡ tails_at l.count l.text l.at
