use Rattle.json_names.proofs.Clean.{clean-name}
use Rattle.json_names.proofs.slashes.slash_named.Goals as goal

pub returns-then-clean : goal.returns-then-clean
returns-then-clean c = clean-name _ _ c.requires c.if-clean.true _ _
