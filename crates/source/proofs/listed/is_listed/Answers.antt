-- `source::listed::is_listed` meets its contract.
use Rattle.source.proofs.ListedLaws.{only_row, plain_rows}
use mathlib.Core.Bool.{false≢true}
use mathlib.Core.Path.{sym, ◌∙◌}
use borrow.Author.Tests.{le-ltb}
use Rattle.source.proofs.listed.is_listed.Goals as goal
use Rattle.source.proofs.listed.is_listed.Goals.{then-to-from-gt2678400, else-to-from-gt2678400}

pub slice_bounds-is_by_months-end : goal.slice_bounds-is_by_months-end
slice_bounds-is_by_months-end c = sym (only_row _ c.args.rows.now c.requires.0)

pub is_by_months-requires : goal.is_by_months-requires
is_by_months-requires c = only_row _ c.args.rows.now c.requires.0

pub returns-then-has_one_rule : goal.returns-then-has_one_rule
returns-then-has_one_rule c = λ e.
    elim c.if-to-from-gt2678400.branch [
      | then-to-from-gt2678400 w ↦
          let one = w.has_one_rule.ensures (sym w.value-is ∙ c.if-has_one_rule.true) in
          (plain_rows _ _ c.requires.0 one.0 one.1.0 _ (c.is_by_months.ensures.0 e), one.1.1)
      | else-to-from-gt2678400 w ↦ absurd (false≢true (sym (le-ltb _ _ w.if-to-from-gt2678400.false) ∙ (sym w.value-is ∙ c.if-has_one_rule.true)))
    ]

pub returns-else-has_one_rule : goal.returns-else-has_one_rule
returns-else-has_one_rule c = λ e. absurd (false≢true (sym c.if-has_one_rule.false ∙ e))
