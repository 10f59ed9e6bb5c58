use Rattle.std.proofs.Common.{◌∙◌}
use Rattle.json_strict.proofs.Free.{free-pairs}
use Rattle.json_strict.proofs.slashes.paired.Goals as goal

pub returns-then-surrogate_free : goal.returns-then-surrogate_free
returns-then-surrogate_free c = c.if-surrogate_free.true ∙ free-pairs _ (c.surrogate_free.ensures c.if-surrogate_free.true)
