-- `source::whole::ids_from` meets its contract, by each of the two ways.
use Rattle.source.proofs.ListedLaws.{whole-unnamed}
use Rattle.source.proofs.whole.ids_from.Goals as goal

pub is_listed-requires : goal.is_listed-requires
is_listed-requires c = let p = c.requires in (whole-unnamed _ _ _ _ p.whole, p.span)

pub listed-requires : goal.listed-requires
listed-requires c = let p = c.requires in
    record { plain = (c.is_listed.ensures c.if-is_listed.true).0; whole = whole-unnamed _ _ _ _ p.whole; span = p.span; room = p.room }

pub returns-then-is_listed : goal.returns-then-is_listed
returns-then-is_listed c = let a = c.args in
    c.listed.ensures.handed a.ids.now a.gone.now (c.is_listed.ensures c.if-is_listed.true).1
