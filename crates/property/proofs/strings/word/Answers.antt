-- `property::strings::word` meets its contract.
use mathlib.Core.Path.{sym, ◌∙◌}
use Rattle.property.proofs.Ends.{string-end}
use Rattle.property.proofs.Words.{raw-none}
use Rattle.property.specs.Inner.Words.{word_at}
use borrow.Author.Rules.{rules}
use Rattle.property.proofs.strings.word.Goals as goal

pub raw-requires : goal.raw-requires
raw-requires c = string-end _ _ _ (sym c.string.ensures ∙ c.in-Ok.is)

pub returns-in-Ok : goal.returns-in-Ok
unfolding word_at
returns-in-Ok c = rw (
  ← c.string.ensures,
  c.in-Ok.is,
) (search rules)

pub returns-in-Err : goal.returns-in-Err
unfolding word_at
returns-in-Err c = rw (← c.string.ensures, c.in-Err.is, raw-none)
