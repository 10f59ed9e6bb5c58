-- `replay::refusals::is_range` meets its contract: both ends are Mondays, and the second is not before the first.
use mathlib.Core.Bool.{Bool, ◌&&◌}
use mathlib.Core.Path.{◌≡◌, refl, sym, ap, ◌∙◌}
use lib.Signed.{le_z}
use Rattle.weeks.specs.Weeks.{is_monday}
use Rattle.weeks.specs.Replay.{is_range}
use Rattle.replay.proofs.RangeLaws.{both-passed, monday-is}
use Rattle.replay.proofs.refusals.is_range.Goals as goal
use Rattle.replay.proofs.refusals.is_range.Goals.{Joined-is_monday, then-is_monday, else-is_monday}

mondays : (c : Joined-is_monday) → c.if-is_monday.value ≡ (is_monday c.args.from && is_monday c.args.to)
mondays c =
    let first : c.is_monday.result ≡ is_monday c.args.from = monday-is c.args.from c.ranges.from _ _ c.up.ensures c.is_monday.ensures in
    elim c.if-is_monday.branch [
      | then-is_monday w ↦
          w.value-is
          ∙ monday-is c.args.to c.ranges.to _ _ w.up-then-is_monday.ensures w.is_monday-then-is_monday.ensures
          ∙ ap (λ (b : Bool). b && is_monday c.args.to) (sym w.if-is_monday.true ∙ first)
      | else-is_monday w ↦ w.value-is ∙ w.if-is_monday.false ∙ ap (λ (b : Bool). b && is_monday c.args.to) (sym w.if-is_monday.false ∙ first)
    ]

pub returns-then-is_monday-2 : goal.returns-then-is_monday-2
unfolding is_range
returns-then-is_monday-2 c =
    both-passed le_z c.ranges.from c.ranges.to refl
    ∙ ap (λ (b : Bool). b && le_z c.args.from c.args.to) (sym c.if-is_monday-2.true ∙ mondays (goal.at.returns-then-is_monday-2 c).Joined-is_monday)

pub returns-else-is_monday-2 : goal.returns-else-is_monday-2
unfolding is_range
returns-else-is_monday-2 c =
    c.if-is_monday-2.false
    ∙ ap (λ (b : Bool). b && le_z c.args.from c.args.to) (sym c.if-is_monday-2.false ∙ mondays (goal.at.returns-else-is_monday-2 c).Joined-is_monday)
