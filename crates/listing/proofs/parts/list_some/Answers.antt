-- `listing::parts::list_some` meets its contract.
use Rattle.listing.proofs.KindLaws.{piece-at}
use Rattle.track.proofs.PlainLaws.{part-size}
use Rattle.listing.proofs.PartLaws.{chosen-calendar, chosen-kind, chosen-within, some-room, some-listed}
use native.Mathlib.Omega.{arith}
use Rattle.listing.proofs.parts.list_some.Goals as goal

pub first_weekday-weekday-requires : goal.first_weekday-weekday-requires
first_weekday-weekday-requires c = chosen-calendar _ _ _ _ c.requires.0

pub keep-row-requires : goal.keep-row-requires
keep-row-requires c = let p = c.requires in
    (p.0.asked.row_length, (rw c.first_weekday-weekday.ensures (chosen-kind _ _ _ _ p.0), p.1.0))

pub overflow_sub-before : goal.overflow_sub-before
overflow_sub-before c = (chosen-calendar _ _ _ _ c.requires.0).monthday_low

pub slice_bounds-collect-end : goal.slice_bounds-collect-end
slice_bounds-collect-end c = let row = c.keep-row.ensures in
    omega (arith, row.within, row.kept.size, chosen-within _ _ _ _ c.requires.0)

pub collect-requires : goal.collect-requires
collect-requires c = let p = c.requires in
    let row = c.keep-row.ensures in
    let within = chosen-within _ _ _ _ p.0 in
    some-room _ _ _ _ p.0 _ _ p.1.1 _ _ (omega (arith, row.within, row.kept.size))

pub returns : goal.returns
returns c = let p = c.requires in
    let row = c.keep-row.ensures in
    let within = chosen-within _ _ _ _ p.0 in
    (some-listed _ _ _ _ p.0 _ _ (rw c.first_weekday-weekday.ensures at row) _ (part-size _ _ _ (omega (arith, row.within, row.kept.size))) (λ k h. piece-at _ _ _ k _ h) _ _ _ _ c.collect.ensures, row.kept)
