use Rattle.json_text.specs.Words.{scalar_at, word_at}
use Rattle.json_text.proofs.words.scalar.Goals as goal

pub returns-in-102 : goal.returns-in-102
unfolding scalar_at word_at
returns-in-102 c = rw (← c.byte.ensures.is, c.in-102.is) c.four.ensures
