use Rattle.std.proofs.Common.{◌<◌, ◌-◌, ◌+◌, arith}
use Rattle.std.proofs.lemmas.List.{get_or-drop, get_or-take}
use Rattle.json_text.proofs.Blocks.{run_none, run_more}
use Rattle.json_text.proofs.plain.block.Goals as goal

pub loop-b-init : goal.loop-b-init
loop-b-init c = λ e. run_none _ _

pub loop-b-preserved : goal.loop-b-preserved
loop-b-preserved c = λ e.
    let within : c.loop-b.b-index < c.args.at + 64 - c.args.at = omega arith in
    run_more _ _ _ (c.loop-b.invariant (c.mixed-any.ensures e).0) (rw (get_or-take, get_or-drop) at (c.mixed-any.ensures e).1)
