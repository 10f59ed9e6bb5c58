-- `track::runs::mark_days` meets its contract.
use mathlib.Core.Bool.{false≢true}
use mathlib.Core.Path.{sym, ◌∙◌}
use Rattle.track.proofs.runs.mark_days.Goals as goal

pub mark_positions-requires : goal.mark_positions-requires
mark_positions-requires c = c.requires

pub is_alike-alike-requires : goal.is_alike-alike-requires
is_alike-alike-requires c = c.requires.row_length

pub mark_parts-requires : goal.mark_parts-requires
mark_parts-requires c = let plain = c.if-terms.false in (
  record {
    months = c.is_alike-alike.ensures.0;
    positions = λ e placed. absurd (false≢true (sym plain ∙ placed));
    plain = λ e. plain;
  },
  c.requires,
)
