-- `zone::offset` meets its contract: the place that the hint or the search gives is that after the last mark at or before the local time.
use Rattle.zone.proofs.TableLaws.{valid-gives}
use Rattle.zone.proofs.Machine.{Ranged, range-again, hint-place, search-place, place-fits, place-offset}
use Rattle.zone.proofs.offset.Goals as goal

pub still-requires : goal.still-requires
still-requires c =
    let here : Ranged c.args.initial c.args.instants.now c.args.offsets.now c.args.local = record { initial_fits = c.ranges.initial; local_fits = c.ranges.local; range = (valid-gives _ _ _ c.requires).ranges } in
    range-again here

pub before-requires : goal.before-requires
before-requires c =
    let here : Ranged c.args.initial c.args.instants.now c.args.offsets.now c.args.local = record { initial_fits = c.ranges.initial; local_fits = c.ranges.local; range = (valid-gives _ _ _ c.requires).ranges } in
    place-fits here c.requires _ (hint-place here c.requires _ _ c.still.ensures c.if-still.true)

pub returns-then-still : goal.returns-then-still
returns-then-still c =
    let here : Ranged c.args.initial c.args.instants.now c.args.offsets.now c.args.local = record { initial_fits = c.ranges.initial; local_fits = c.ranges.local; range = (valid-gives _ _ _ c.requires).ranges } in
    place-offset here c.requires _ (hint-place here c.requires _ _ c.still.ensures c.if-still.true) _
    c.before-then-still.type_inv c.before-then-still.ensures

pub search-place-requires : goal.search-place-requires
search-place-requires c =
    let here : Ranged c.args.initial c.args.instants.now c.args.offsets.now c.args.local = record { initial_fits = c.ranges.initial; local_fits = c.ranges.local; range = (valid-gives _ _ _ c.requires).ranges } in
    record { in_range = range-again here; instants_len_bound = (valid-gives _ _ _ c.requires).count }

pub before-requires-2 : goal.before-requires-2
before-requires-2 c =
    let here : Ranged c.args.initial c.args.instants.now c.args.offsets.now c.args.local = record { initial_fits = c.ranges.initial; local_fits = c.ranges.local; range = (valid-gives _ _ _ c.requires).ranges } in
    place-fits here c.requires _ (search-place here c.requires _ c.search-place.ensures)

pub returns : goal.returns
returns c =
    let here : Ranged c.args.initial c.args.instants.now c.args.offsets.now c.args.local = record { initial_fits = c.ranges.initial; local_fits = c.ranges.local; range = (valid-gives _ _ _ c.requires).ranges } in
    place-offset here c.requires _ (search-place here c.requires _ c.search-place.ensures) _ c.before-2.type_inv c.before-2.ensures
