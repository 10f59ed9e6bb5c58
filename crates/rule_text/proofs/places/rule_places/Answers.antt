-- `rule_text::places::rule_places` meets its contract.
use Rattle.rule_text.proofs.PlaceLaws.{places_is, places-not}
use Rattle.rule_text.proofs.ListLaws.{entries-length}
use borrow.Author.Tests.{eq-eqb, ne_eqb}
-- `rule_text::places::rule_places` meets its contract.
use Rattle.rule_text.proofs.places.rule_places.Goals as goal

pub returns-then-byte-ne91 : goal.returns-then-byte-ne91
returns-then-byte-ne91 c = places-not c.args.text.now c.args.at (rw (← c.byte.ensures.is) (ne_eqb _ _ c.if-byte-ne91.true))

pub shape_of-list : goal.shape_of-list
shape_of-list c = entries-length c.place_entries.ensures

pub returns : goal.returns
returns c = places_is c.args.text.now c.args.at (rw (← c.byte.ensures.is) (eq-eqb _ _ c.if-byte-ne91.false)) c.place_entries.ensures
