-- `record::rows::put_trailer` meets its contract: the four stores are those of the trailer.
use Rattle.record.proofs.RowLaws.{trailer-steps}
use Rattle.record.proofs.rows.put_trailer.Goals as goal

pub returns : goal.returns
returns c = trailer-steps _ _ _ _ _ _ _
    c.put_u16.ensures
    c.put_u16-2.ensures
    c.put_u32.ensures
    c.put_u32-2.ensures
