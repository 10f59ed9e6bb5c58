-- `track::years::year_count` meets its contract.
use Rattle.track.proofs.YearLaws.{alike-terms, year-short, year-spanning, idle-counts, slot-below, kept-said, kept_more, counted-few}
use native.Mathlib.Omega.{arith}
use mathlib.Core.Path.{sym, ◌∙◌}
use borrow.Author.Tests.{not-false}
use Rattle.track.proofs.years.year_count.Goals as goal

pub is_idle-requires : goal.is_idle-requires
is_idle-requires c = c.requires.0.begins

pub returns-then-is_idle : goal.returns-then-is_idle
returns-then-is_idle c = let p = c.requires in
    (idle-counts _ _ p.0.begins (sym c.is_idle.ensures ∙ c.if-is_idle.true) _ _ _ _ p.0.after, p.1)

pub count_span-requires : goal.count_span-requires
count_span-requires c = year-spanning _ _ _ _ _ c.requires.0

pub returns-then-not-is_alike : goal.returns-then-not-is_alike
returns-then-not-is_alike c = (c.count_span.ensures, c.requires.1)

pub slot_of-slot-requires : goal.slot_of-slot-requires
slot_of-slot-requires c = (alike-terms _ (sym c.is_alike.ensures ∙ not-false c.is_alike.result c.if-not-is_alike.false-raw), c.requires.0.begins)

pub bounds-known-slot : goal.bounds-known-slot
bounds-known-slot c = let p = c.requires in
    let alike = alike-terms _ (sym c.is_alike.ensures ∙ not-false c.is_alike.result c.if-not-is_alike.false-raw) in
    omega (arith, slot-below _ alike _ p.0.begins, c.slot_of-slot.ensures, p.1.size)

pub returns-then-kept-gt0 : goal.returns-then-kept-gt0
returns-then-kept-gt0 c = let p = c.requires in
    (kept-said _ _ _ _ p.1 _ p.0.begins p.0.after _ c.slot_of-slot.ensures c.if-kept-gt0.true, p.1)

pub count_span-found-requires : goal.count_span-found-requires
count_span-found-requires c = year-spanning _ _ _ _ _ c.requires.0

pub overflow_add-known : goal.overflow_add-known
overflow_add-known c = let p = c.requires.0 in
    omega (arith, counted-few _ _ _ _ c.count_span-found.ensures, year-short _ _ p.begins)

pub bounds-known-slot-2 : goal.bounds-known-slot-2
bounds-known-slot-2 c = let p = c.requires in
    let alike = alike-terms _ (sym c.is_alike.ensures ∙ not-false c.is_alike.result c.if-not-is_alike.false-raw) in
    omega (arith, slot-below _ alike _ p.0.begins, c.slot_of-slot.ensures, p.1.size)

pub returns : goal.returns
returns c = let p = c.requires in
    let alike = alike-terms _ (sym c.is_alike.ensures ∙ not-false c.is_alike.result c.if-not-is_alike.false-raw) in
    (c.count_span-found.ensures, kept_more _ _ _ _ _ alike p.0.endless _ p.1 _ p.0.begins p.0.after _ _ c.slot_of-slot.ensures c.count_span-found.ensures)
