-- `json_ends::table::string_past` meets its contract.
use borrow.Author.Tests.{ne_eqb}
use Rattle.json_text.specs.Strings.{string_at}
use Rattle.json_ends.proofs.Laws.{strings-say}
use Rattle.json_ends.proofs.table.string_past.Goals as goal

pub returns-then-byte-ne34 : goal.returns-then-byte-ne34
unfolding string_at
returns-then-byte-ne34 c = rw (← c.byte.ensures.is, ne_eqb _ _ c.if-byte-ne34.true)

pub returns : goal.returns
returns c = strings-say _ _ c.requires _ _ _ _ c.byte.ensures.is c.if-byte-ne34.false c.entry-known.ensures c.end_of.ensures c.if-known-lt-STEP.false
