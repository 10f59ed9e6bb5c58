-- `writer::times::times_at` meets its contract: the first override that names the occurrence decides.
use mathlib.Core.Path.{◌∙◌}
use Rattle.writer.proofs.DetailsLaws.{times-patched, times-own}
use Rattle.writer.proofs.times.times_at.Goals as goal

pub returns-in-Some : goal.returns-in-Some
returns-in-Some c = c.patched.ensures ∙ times-patched _ _ _ _ _ _ _ c.in-Some.ensures

pub returns-in-None : goal.returns-in-None
returns-in-None c = c.own_times.ensures ∙ times-own _ _ _ _ _ _ c.in-None.ensures
