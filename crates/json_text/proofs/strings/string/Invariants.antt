-- `string` meets its contract: what is left to read, from here on, stays what there was at the start.
use Rattle.std.proofs.Common.{◌≡◌, ◌-◌, length}
use Rattle.json_text.specs.Strings.{chars_at, string_at}
use Rattle.json_text.proofs.strings.string.Given as goal

abbrev pub invariant-loop-i : goal.invariant-loop-i
invariant-loop-i l = chars_at (length l.text - l.i) l.text l.i ≡ string_at l.text l.at

abbrev pub decreases-loop-i : goal.decreases-loop-i
decreases-loop-i l = length l.text - l.i
