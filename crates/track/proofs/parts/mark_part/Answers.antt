-- `track::parts::mark_part` meets its contract.
use Rattle.track.proofs.parts.mark_part.Goals as goal

pub mark_alike-requires : goal.mark_alike-requires
mark_alike-requires c = let p = c.requires in
    ((p.0.months c.if-alike.true, p.0.positions c.if-alike.true), p.1)

pub mark_each-requires : goal.mark_each-requires
mark_each-requires c = let p = c.requires in
    (p.0.plain c.if-alike.false, p.1.1)

pub returns-else-alike : goal.returns-else-alike
returns-else-alike c = record { marks = c.mark_each.ensures; kept = c.requires.1.0 }
