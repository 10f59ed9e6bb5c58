-- `json_tree::raws::raw` meets its contract.
use Rattle.json_tree.proofs.RawLaws.{raw-part}
use Rattle.json_tree.proofs.raws.raw.Goals as goal

pub returns : goal.returns
returns c = raw-part _ _ _ c.requires.0 c.requires.1
