-- `listing::kinds::keep_list` meets its contract.
use Rattle.listing.proofs.KindLaws.{piece-at, list-already, list-kept}
use Rattle.track.proofs.PlainLaws.{part-size}
use native.Mathlib.Omega.{arith}
use Rattle.listing.proofs.kinds.keep_list.Goals as goal

pub returns-then-lists-at-gt0 : goal.returns-then-lists-at-gt0
returns-then-lists-at-gt0 c = let p = c.requires.1 in
    rw c.row_of-at.ensures (list-already _ _ _ _ p.0 _ _ p.1.0 p.1.1 (rw c.row_of-at.ensures at c.if-lists-at-gt0.true))

pub returns : goal.returns
returns c = let p = c.requires.1 in
    let row = c.keep-row.ensures in
    let kind = p.0 in
    let room = row.within in
    let size = row.kept.size in
    rw c.row_of-at.ensures
    (list-kept _ _ _ _ kind _ _ _ row (part-size _ _ _ (omega arith)) (λ k h. piece-at _ _ _ k _ h) _ _ p.1.1 (rw c.row_of-at.ensures at c.write_list.ensures))
