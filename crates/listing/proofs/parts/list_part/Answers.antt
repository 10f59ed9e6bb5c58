-- `listing::parts::list_part` meets its contract.
use Rattle.listing.proofs.PartLaws.{part-unset, part_out, part-chosen, whole-chosen, whole-listed}
use Rattle.matcher.proofs.WalkLaws.{in-calendar}
use mathlib.Core.Path.{sym, ◌∙◌}
use native.Mathlib.Omega.{arith}
use Rattle.listing.proofs.parts.list_part.Goals as goal
use Rattle.listing.proofs.parts.list_part.Goals.{then-not-on_month-via-then-not-on_month, then-not-on_month-via-else-not-on_month+then-not-in_step}

pub on_month-requires : goal.on_month-requires
on_month-requires c = let a = c.requires.0.1.0 in
    (a.row_length, in-calendar _ _ a.day (omega (arith, a.high)))

pub returns-then-not-on_month : goal.returns-then-not-on_month
returns-then-not-on_month c = let p = c.requires in
    elim c.then-not-on_month.branch [
      | then-not-on_month-via-then-not-on_month w ↦ part-unset _ _ p.0.0 _ p.0.1.0 _ p.0.1.1 _ _ _ _ p.1.0 (sym c.on_month.ensures ∙ w.if-not-on_month.true)
      | then-not-on_month-via-else-not-on_month+then-not-in_step w ↦ part_out _ _ p.0.0 _ p.0.1.0 _ p.0.1.1 _ _ _ _ p.1.0 (sym w.in_step.ensures ∙ w.if-not-in_step.true)
    ]

pub in_step-requires : goal.in_step-requires
in_step-requires c = let a = c.requires.0.1.0 in
    (a.week, (in-calendar _ _ a.day (omega (arith, a.high)), omega (arith, a.high)))

pub list_month-requires : goal.list_month-requires
list_month-requires c = let p = c.requires in
    let whole = c.if-n-x.true in
    (whole-chosen _ _ _ _ whole (part-chosen _ _ p.0.0 _ p.0.1.0 _ p.0.1.1 (sym c.on_month.ensures ∙ c.if-not-on_month.false) (sym c.in_step.ensures ∙ c.if-not-in_step.false)), (p.1.0, p.1.1))

pub returns-then-n-x : goal.returns-then-n-x
returns-then-n-x c = whole-listed _ _ _ _ _ _ _ _ _ _ c.if-n-x.true c.list_month.ensures

pub list_some-requires : goal.list_some-requires
list_some-requires c = let p = c.requires in
    (part-chosen _ _ p.0.0 _ p.0.1.0 _ p.0.1.1 (sym c.on_month.ensures ∙ c.if-not-on_month.false) (sym c.in_step.ensures ∙ c.if-not-in_step.false), (p.1.0.rows_kept, p.1.1))

pub returns : goal.returns
returns c = let l = c.list_some.ensures in
    record { listed = l.0; kinds = record { rows_kept = l.1; lists_kept = c.requires.1.0.lists_kept } }
