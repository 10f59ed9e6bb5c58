-- `source::single::is_id` meets its contract: a window of one second has the one id, or none.
use Rattle.window.proofs.HandLaws.{one_found}
use Rattle.source.proofs.single.is_id.Goals as goal

pub returns : goal.returns
returns c = one_found _ _ _ _ _ _ c.ids_from-chunk.ensures
