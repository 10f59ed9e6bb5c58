-- `track::steps::picks` meets its contract.
use Rattle.track.proofs.StepLaws.{held-asked, held_small, held-places, picks-gone, picks-out-of-step, picks-any, picks-placed}
use Rattle.matcher.proofs.WalkLaws.{asked-day, known}
use mathlib.Core.Bool.{false≢true}
use native.Mathlib.Omega.{arith}
use borrow.Author.Tests.{not-true, not-false}
use mathlib.Core.Path.{sym, ◌∙◌}
use Rattle.track.proofs.steps.picks.Goals as goal
use Rattle.track.proofs.steps.picks.Goals.{then-stays, else-stays}

pub stays-requires : goal.stays-requires
stays-requires c = (c.requires.row_length, asked-day _ _ _ (held-asked _ _ _ c.requires))

pub in_step-requires : goal.in_step-requires
in_step-requires c = let a = held-asked _ _ _ c.requires in
    (c.requires.week, (asked-day _ _ _ a, known _ _ _ a))

pub returns-else-in_step : goal.returns-else-in_step
returns-else-in_step c = elim c.if-stays.branch [
  | then-stays w ↦ picks-out-of-step _ _ _ c.requires _ (sym c.stays.ensures ∙ w.if-stays.true) (sym w.in_step.ensures ∙ (sym w.value-is ∙ c.if-in_step.false)) c.if-in_step.false
  | else-stays w ↦ picks-gone _ _ _ c.requires _ (sym c.stays.ensures ∙ w.if-stays.false) c.if-in_step.false
]

pub returns-then-not-terms : goal.returns-then-not-terms
returns-then-not-terms c = elim c.if-stays.branch [
  | then-stays w ↦ picks-any _ _ _ c.requires _ (sym c.stays.ensures ∙ w.if-stays.true) (sym w.in_step.ensures ∙ (sym w.value-is ∙ c.if-in_step.true)) (not-true _ c.if-not-terms.true) c.if-not-terms.true
  | else-stays w ↦ absurd (false≢true (sym w.if-stays.false ∙ (sym w.value-is ∙ c.if-in_step.true)))
]

pub overflow_add-c : goal.overflow_add-c
overflow_add-c c = omega (arith, held_small _ _ _ c.requires (not-false _ c.if-not-terms.false))

pub is_named-requires : goal.is_named-requires
is_named-requires c = elim c.if-stays.branch [
  | then-stays w ↦ held-places _ _ _ c.requires (not-false _ c.if-not-terms.false) (sym c.stays.ensures ∙ w.if-stays.true)
  | else-stays w ↦ absurd (false≢true (sym w.if-stays.false ∙ (sym w.value-is ∙ c.if-in_step.true)))
]

pub returns-else-not-terms : goal.returns-else-not-terms
returns-else-not-terms c = elim c.if-stays.branch [
  | then-stays w ↦ picks-placed _ _ _ c.requires _ (sym c.stays.ensures ∙ w.if-stays.true) (sym w.in_step.ensures ∙ (sym w.value-is ∙ c.if-in_step.true)) (not-false _ c.if-not-terms.false) c.is_named.ensures
  | else-stays w ↦ absurd (false≢true (sym w.if-stays.false ∙ (sym w.value-is ∙ c.if-in_step.true)))
]
