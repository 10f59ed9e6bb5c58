-- `source::counting::has_room` meets its contract.
use Rattle.std.proofs.Common.{refl, sym, ◌∙◌}
use Rattle.dates.specs.Inner.Dates.{kept_dates, dates_in}
use Rattle.source.proofs.FewLaws.{few-ids}
use Rattle.source.proofs.RoomLaws.{room-none, room-few, room-last, room_most, room-counted}
use Rattle.source.proofs.counting.has_room.Goals as goal
use Rattle.source.proofs.counting.has_room.Goals.{then-first-to, else-first-to}

pub returns-then-size-lt12 : goal.returns-then-size-lt12
returns-then-size-lt12 c = let a = c.args in
    room-none (dates_in a.dates a.rows.now a.ids.now a.gone.now) a.first.count a.first.next a.to a.size c.requires.rest.order c.if-size-lt12.true

pub returns-then-places-count : goal.returns-then-places-count
returns-then-places-count c = let a = c.args in
    room-few (dates_in a.dates a.rows.now a.ids.now a.gone.now) a.first.count a.first.next a.to a.size c.requires.rest.order c.if-size-lt12.false _ refl c.if-places-count.true

pub returns-then-holds_days : goal.returns-then-holds_days
returns-then-holds_days c = let a = c.args in
    rw c.if-holds_days.true
    (elim c.if-first-to.branch [
      | then-first-to w ↦
          room-last (dates_in a.dates a.rows.now a.ids.now a.gone.now) a.first.count a.first.next a.to a.size c.requires.rest.order c.if-size-lt12.false _ refl c.if-places-count.false w.if-first-to.true
      | else-first-to w ↦
          room_most (dates_in a.dates a.rows.now a.ids.now a.gone.now) a.first.count a.first.next a.to a.size c.requires.rest.order c.if-size-lt12.false _ refl c.if-places-count.false _
          (few-ids (kept_dates a.dates a.rows.now a.ids.now a.gone.now) a.first.next a.to c.requires.rest.order) _ w.holds_days.ensures (sym w.value-is ∙ c.if-holds_days.true)
    ])

pub returns-else-holds_days : goal.returns-else-holds_days
returns-else-holds_days c = let a = c.args in
    room-counted (dates_in a.dates a.rows.now a.ids.now a.gone.now) a.first.count a.first.next a.to a.size c.requires.rest.order c.if-size-lt12.false _ refl c.if-places-count.false _ c.count_ids.ensures
