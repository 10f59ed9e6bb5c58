-- `months::rows::choose_days` meets its contract. The invariant: the answers so far are written, and those that stay are counted.
use Rattle.months.proofs.RowLaws.{wrote_none, wrote-more, count_next, chosen-place, chosen_is}
use Rattle.months.specs.Inner.Rows.{answer_at}
use Rattle.rule.proofs.Counting.{count_none, count_most}
use Prim.Native.Nat.{◌+◌}
use mathlib.Core.Path.{sym, ◌∙◌}
use native.Mathlib.Omega.{arith}
use Rattle.months.proofs.rows.choose_days.Goals as goal

pub loop-k-init : goal.loop-k-init
loop-k-init c = (sym (count_none _ 0), wrote_none _ _ _)

pub is_chosen-requires : goal.is_chosen-requires
unfolding answer_at
is_chosen-requires c = let i = c.loop-k.invariant in
    let p = c.requires in
    λ e. chosen-place c.args.flags.now _ _ _ _ _ c.loop-k-test.true i.0 c.count_days-total.ensures p.1.0 p.0 (sym (i.1.high _ (omega arith)) ∙ e)

pub one_more-seen-requires : goal.one_more-seen-requires
one_more-seen-requires c =
    omega (arith, c.loop-k.invariant.0, count_most (answer_at c.args.rows.now c.args.at) 0 c.loop-k.k, c.loop-k-test.true, c.requires.1.0)

pub loop-k-preserved : goal.loop-k-preserved
unfolding answer_at
loop-k-preserved c = let i = c.loop-k.invariant in
    let p = c.requires in
    let stays = i.1.high (c.args.at + c.loop-k.k) (omega arith) in (
      c.one_more-seen.ensures ∙ (rw (stays, i.0) (sym (count_next _ _))),
      wrote-more _ _ _ _ _ _ i.1 (omega (arith, i.1.size, c.loop-k-test.true, p.1.1))
          (chosen_is _ _ _ _ _ _ c.loop-k-test.true i.0 c.count_days-total.ensures _ _ stays c.is_chosen.ensures),
    )
