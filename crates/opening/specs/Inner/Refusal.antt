-- The part of `answer_for` that does not depend on the table: 10, 11 and 12, the lowest that applies, or 0.
use Rattle.std.specs.Prelude.{if◌then◌else◌, ℕ, not, ◌&&◌, List, ℤ}
use Rattle.std.proofs.Math.Option.{Option}
use Rattle.zone.specs.Table.{valid_table}
use Rattle.keywords.specs.declared.Privacy.{Privacy}
use Rattle.call_definitions.specs.Window.{valid_window}
use Rattle.call_definitions.specs.Utc.{ZoneTable}
use Rattle.call_definitions.specs.Answer.{is_secret, other_zone}

unfoldable pub refusal_for : ZoneTable → ℤ → ℤ → Privacy → Option (List ℕ) → ℕ
refusal_for zones from to privacy zone =
    if not (valid_table zones.initial zones.instants zones.offsets) then 10 else
    if not (valid_window from to) then 11 else
    if not (is_secret privacy) && other_zone zone zones.name then 12 else
    0
