-- `writer::times::patch_of` meets its contract: the first override that names the occurrence decides.
use Rattle.std.proofs.lemmas.Grind.{common_steps}
use Rattle.writer.specs.Inner.Details.{patch_of}
use native.Mathlib.Omega.{arith}
use Rattle.writer.proofs.DetailsLaws.{seen_here, seen_next, seen-passed, seen_none}
use Rattle.writer.proofs.times.patch_of.Goals as goal

pub returns-then-is_empty : goal.returns-then-is_empty
unfolding patch_of
returns-then-is_empty c = grind (arith, common_steps)

pub loop-i-init : goal.loop-i-init
loop-i-init c = seen-passed _ _ c.requires.1 _ _ c.look_from-i.ensures

pub returns-then-ids-i : goal.returns-then-ids-i
returns-then-ids-i c = seen_here _ _ c.requires.1 _ _ (omega arith) c.loop-i.invariant c.if-ids-i.true

pub loop-i-preserved : goal.loop-i-preserved
loop-i-preserved c = seen_next _ _ c.requires.1 _ _ (omega arith) c.loop-i.invariant c.if-ids-i.false

pub returns : goal.returns
returns c = seen_none _ _ c.requires.1 _ _ c.loop-i-test.false c.loop-i.invariant
