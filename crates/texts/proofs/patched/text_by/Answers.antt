-- `texts::patched::text_by` meets its contract: the first override that names the occurrence decides.
use mathlib.Core.Path.{ap, ◌∙◌}
use native.Mathlib.Omega.{arith}
use Rattle.texts.specs.Inner.Shown.{chosen}
use Rattle.texts.proofs.TextLaws.{asked-patched, asked-own, own-text}
use Rattle.texts.proofs.patched.text_by.Goals as goal

pub returns-in-Some : goal.returns-in-Some
returns-in-Some c =
    c.text_patched.ensures ∙ ap (chosen c.args.title) (asked-patched c.args.text.now _ c.args.x _ _ c.args.places.now _ c.in-Some.ensures (omega arith))

pub returns-in-None : goal.returns-in-None
returns-in-None c =
    own-text _ c.args.title c.args.own _ _ (asked-own c.args.text.now _ c.args.x _ _ c.args.places.now c.in-None.ensures (omega arith)) _ c.choose.ensures
