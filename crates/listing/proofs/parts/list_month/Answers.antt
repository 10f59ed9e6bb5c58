-- `listing::parts::list_month` meets its contract.
use Rattle.listing.proofs.PartLaws.{chosen-calendar, chosen-kind, month-number, month-few, month-fits, month-asks, month-copied}
use mathlib.Core.Path.{refl}
use native.Mathlib.Omega.{arith}
use Rattle.listing.proofs.parts.list_month.Goals as goal

pub first_weekday-weekday-requires : goal.first_weekday-weekday-requires
first_weekday-weekday-requires c = chosen-calendar _ _ _ _ c.requires.0

pub keep_list-list-requires : goal.keep_list-list-requires
keep_list-list-requires c = let p = c.requires in
    (p.0.asked.row_length, (rw c.first_weekday-weekday.ensures (chosen-kind _ _ _ _ p.0), (p.1.0.rows_kept, p.1.0.lists_kept)))

pub bounds-lists-list : goal.bounds-lists-list
bounds-lists-list c = let list = c.keep_list-list.ensures in
    omega (arith, list.within, list.kept.size)

pub overflow_cast-n : goal.overflow_cast-n
overflow_cast-n c = omega (arith, month-few _ _ _ c.requires.0 _ _ _ (rw c.first_weekday-weekday.ensures at c.keep_list-list.ensures))

pub overflow_sub-n : goal.overflow_sub-n
overflow_sub-n c = month-number _ _ _ c.requires.0 _ _ _ (rw c.first_weekday-weekday.ensures at c.keep_list-list.ensures)

pub overflow_add-list : goal.overflow_add-list
overflow_add-list c = let list = c.keep_list-list.ensures in
    omega (arith, list.within, month-few _ _ _ c.requires.0 _ _ _ (rw c.first_weekday-weekday.ensures at list))

pub slice_bounds-copy_from-end : goal.slice_bounds-copy_from-end
slice_bounds-copy_from-end c = month-fits _ _ _ c.requires.0 _ _ _ (rw c.first_weekday-weekday.ensures at c.keep_list-list.ensures) _ refl

pub copy_from-requires : goal.copy_from-requires
copy_from-requires c = let p = c.requires in
    month-asks _ _ _ p.0 _ _ _ (rw c.first_weekday-weekday.ensures at c.keep_list-list.ensures) _ refl _ _ p.1.1

pub returns : goal.returns
returns c = month-copied _ _ _ c.requires.0 _ _ _ (rw c.first_weekday-weekday.ensures at c.keep_list-list.ensures) _ refl _ _ _ _ c.copy_from.ensures
