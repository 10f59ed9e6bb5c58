-- `sheet_reader::records::rises` meets its contract: two ids, compared.
use native.Mathlib.Numerals.{add-one}
use Rattle.signed.proofs.Parts.{back}
use Rattle.sheet_reader.proofs.records.rises.Goals as goal

pub returns : goal.returns
returns c = rw (back c.id_at.result c.id_at.type_inv, back c.id_at-2.result c.id_at-2.type_inv, c.id_at.ensures, c.id_at-2.ensures, add-one)
