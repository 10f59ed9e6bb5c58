-- `track::plain::picks_plain` meets its contract.
use Rattle.track.proofs.PlainLaws.{plain-gone, plain-stays}
use Rattle.matcher.proofs.WalkLaws.{asked-day, known}
use mathlib.Core.Path.{sym, ◌∙◌}
use Rattle.track.proofs.plain.picks_plain.Goals as goal

pub stays-requires : goal.stays-requires
stays-requires c = let a = c.requires.1 in
    (a.row_length, asked-day _ _ _ a)

pub in_step-requires : goal.in_step-requires
in_step-requires c = let a = c.requires.1 in
    (a.week, (asked-day _ _ _ a, known _ _ _ a))

pub returns-then-stays : goal.returns-then-stays
returns-then-stays c = let p = c.requires in
    sym (plain-stays _ _ _ p.1.day p.0 (sym c.stays.ensures ∙ c.if-stays.true) _ c.in_step.ensures)

pub returns-else-stays : goal.returns-else-stays
returns-else-stays c = let a = c.requires.1 in
    c.if-stays.false ∙ sym (plain-gone _ _ _ a.day (sym c.stays.ensures ∙ c.if-stays.false))
