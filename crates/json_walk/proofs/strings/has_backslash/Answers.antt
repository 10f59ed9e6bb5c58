use Rattle.json_walk.proofs.Laws.{bytes-ahead}
use Rattle.json_walk.specs.Strings.{raw_at}
use Rattle.json_walk.proofs.strings.has_backslash.Goals as goal

pub returns : goal.returns
unfolding raw_at
returns c = rw (
  ← c.inside.ensures,
  bytes-ahead,
  ← c.step.ensures,
)
    c.slash_in.ensures
