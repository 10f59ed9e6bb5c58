-- `texts::parts::part_from` meets its contract.
use mathlib.Core.Path.{sym, ◌∙◌}
use native.Mathlib.Omega.{arith}
use Rattle.property.specs.Inner.Words.{word_at}
use Rattle.property.proofs.Ends.{string-end}
use Rattle.property.proofs.Words.{raw-none}
use Rattle.texts.proofs.PartLaws.{raw-placed, none-placed, no_bytes}
use borrow.Author.Rules.{rules}
use Rattle.texts.proofs.parts.part_from.Goals as goal

pub overflow_add-at : goal.overflow_add-at
overflow_add-at c = let e = string-end _ _ _ (sym c.string.ensures ∙ c.in-Ok.is) in
    search rules

pub overflow_sub-stop : goal.overflow_sub-stop
overflow_sub-stop c = let e = string-end _ _ _ (sym c.string.ensures ∙ c.in-Ok.is) in
    omega arith

pub between-requires : goal.between-requires
between-requires c = let e = string-end _ _ _ (sym c.string.ensures ∙ c.in-Ok.is) in
    omega arith

pub returns-in-Ok : goal.returns-in-Ok
unfolding word_at
returns-in-Ok c = let e = string-end _ _ _ (sym c.string.ensures ∙ c.in-Ok.is) in
    rw (
      ← c.string.ensures,
      c.in-Ok.is,
    ) (raw-placed _ _ _ e.0 e.1 _ c.between.ensures)

pub returns-in-Err : goal.returns-in-Err
unfolding word_at
returns-in-Err c = rw (← c.string.ensures, c.in-Err.is, raw-none)
    (none-placed _ _ _ c.between-in-Err.ensures (no_bytes _))
