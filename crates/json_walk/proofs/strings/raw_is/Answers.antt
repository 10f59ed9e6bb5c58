use Rattle.std.proofs.Common.{sym, ◌∙◌, ne_eqb}
use Rattle.json_walk.proofs.Laws.{same_word, bytes-ahead, same-all}
use Rattle.json_walk.specs.Strings.{raw_at}
use Rattle.json_walk.proofs.strings.raw_is.Goals as goal

pub returns-then-n-word : goal.returns-then-n-word
unfolding raw_at
returns-then-n-word c = rw (
  ← c.inside-n.ensures,
  bytes-ahead,
  ← c.step.ensures,
)
    (c.same_bytes.ensures ∙ same-all _ _ _ c.if-n-word.true)

pub returns-else-n-word : goal.returns-else-n-word
unfolding raw_at
returns-else-n-word c = rw (ne_eqb _ _ c.if-n-word.false, ← c.inside-n.ensures) (sym (same_word _ _ c.if-n-word.false _ _))
