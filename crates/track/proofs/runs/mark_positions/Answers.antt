-- `track::runs::mark_positions` meets its contract.
use borrow.Author.Rules.{rules}
use mathlib.Core.Bool.{false≢true}
use mathlib.Core.Path.{sym}
use Rattle.track.proofs.runs.mark_positions.Goals as goal

pub mark_parts-requires : goal.mark_parts-requires
mark_parts-requires c = let like = c.is_alike.ensures.0 c.if-is_alike.true in
    (record { months = λ e. like; positions = λ e placed. search rules; plain = λ e. absurd (false≢true (sym e)) }, c.requires)
