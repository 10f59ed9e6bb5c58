-- `months::rows::count_days` meets its contract. The invariant: what was found is what the days so far hold.
use Rattle.months.proofs.RowLaws.{count_next}
use Rattle.months.specs.Inner.Rows.{answer_at}
use Rattle.rule.proofs.Counting.{count_none, count_most}
use Rattle.std.proofs.lemmas.List.{places}
use Prim.Native.Nat.{◌+◌, ◌-◌}
use mathlib.Core.Bool.{false}
use mathlib.Core.Path.{◌≡◌, sym, ◌∙◌}
use lib.ListN.{get_or, take, drop, length}
use native.Mathlib.Omega.{arith}
use Rattle.months.proofs.rows.count_days.Goals as goal

pub loop-yes-init : goal.loop-yes-init
loop-yes-init c = sym (count_none _ 0)

pub one_more-found-requires : goal.one_more-found-requires
one_more-found-requires c =
    let size : length (take (c.args.at + c.args.days - c.args.at) (drop c.args.at c.args.rows.now)) ≡ c.args.days = grind (arith, places) in
    omega (arith, c.loop-yes.invariant, count_most (answer_at c.args.rows.now c.args.at) 0 c.loop-yes.yes-index, c.loop-yes-test.true, c.requires.0)

pub loop-yes-preserved : goal.loop-yes-preserved
unfolding answer_at
loop-yes-preserved c =
    let here : get_or (take (c.args.at + c.args.days - c.args.at) (drop c.args.at c.args.rows.now)) c.loop-yes.yes-index false ≡ get_or c.args.rows.now (c.args.at + c.loop-yes.yes-index) false = grind (arith, places) in
    c.one_more-found.ensures ∙ rw (c.loop-yes.invariant, here) (sym (count_next _ _))
