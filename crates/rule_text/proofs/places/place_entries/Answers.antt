-- `rule_text::places::place_entries` meets its contract.
use Rattle.std.specs.Prelude.{◌≡◌, length, None}
use native.Mathlib.Omega.{arith}
use Rattle.rule_text.proofs.EntryLaws.{rest-stop, rest-none, counting-goes-on, storing-goes-on, counting-starts, storing-starts, entries-end}
use Rattle.json_tree.proofs.Trees.{place-tree}
use Rattle.fault.specs.Fault.{first}
use Rattle.fault.proofs.Laws.{none-lower}
use mathlib.Core.Path.{refl, sym}
use Rattle.json_walk.specs.Walk.{elements_of}
use Rattle.rule_text.proofs.places.place_entries.Goals as goal

pub loop-count-init : goal.loop-count-init
unfolding elements_of
loop-count-init c = rw c.first_element-step.ensures (counting-starts _ _ _ _, storing-starts _ _ _ _ _ _)

pub shape_of-list-in_default : goal.shape_of-list-in_default
shape_of-list-in_default c = c.loop-count.invariant.1.same

pub returns-in_default : goal.returns-in_default
returns-in_default c = entries-end _ _ _ _ _ _ _ _ _ c.loop-count.invariant.0 c.loop-count.invariant.1 (rest-stop _ _ _ _ c.in_default.is)

pub loop-count-preserved : goal.loop-count-preserved
unfolding first
loop-count-preserved c = (
  counting-goes-on _ _ _ _ c.in-Some.is c.loop-count-test.true c.loop-count.invariant.0 c.next_element-step.ensures (sym (none-lower None)) (λ l. refl),
  storing-goes-on _ _ _ _ _ c.in-Some.is c.loop-count-test.true c.loop-count.invariant.1 c.next_element-step.ensures c.put.ensures (λ l. sym (place-tree l _ _)),
)

pub shape_of-list : goal.shape_of-list
shape_of-list c = c.loop-count.invariant.1.same

pub returns : goal.returns
returns c = let e : length c.args.text.now ≡ c.loop-count.count = omega arith in rw e (entries-end _ _ _ _ _ _ _ _ _ c.loop-count.invariant.0 c.loop-count.invariant.1 (rest-none _ _ _ _ c.loop-count-test.false _))
