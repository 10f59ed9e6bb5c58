-- `listing::kinds::write_list` meets its contract.
use Rattle.listing.proofs.KindLaws.{list_written}
use native.Mathlib.Omega.{arith}
use Rattle.listing.proofs.kinds.write_list.Goals as goal

pub returns : goal.returns
returns c = let p = c.requires in
    list_written _ _ _ _ _ c.collect-end.ensures p.0 p.1.0 _ (omega arith)
