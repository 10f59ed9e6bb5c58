-- `texts::patched::text_patched` meets its contract.
use Rattle.texts.proofs.TextLaws.{patch-text}
use Rattle.texts.proofs.patched.text_patched.Goals as goal

pub returns : goal.returns
returns c = patch-text _ c.args.title _ _ _ c.patch-p.result (c.patch-p.ensures 13) _ c.choose.ensures
