use Rattle.std.proofs.Common.{◌≡◌, true, arith, below_none, below_more}
use Rattle.json_names.specs.Inner.Order.{Rising}
use Rattle.json_names.proofs.sorted.rising.Goals as goal

pub loop-i-init : goal.loop-i-init
unfolding Rising
loop-i-init c = below_none _

pub loop-i-preserved : goal.loop-i-preserved
unfolding Rising
loop-i-preserved c =
    let first : c.entry_before.result ≡ true = grind arith in
    below_more _ _ c.loop-i.invariant (rw (← c.entry.ensures, ← c.entry-else-k-i-lt2.ensures, ← c.entry_before.ensures) first)
