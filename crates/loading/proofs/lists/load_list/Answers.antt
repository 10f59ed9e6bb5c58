-- `loading::lists::load_list` meets its contract: no rules, or those at the place.
use Rattle.loading.proofs.PlaceLaws.{rules-fine, rules-none, rules-at}
use Rattle.loading.proofs.lists.load_list.Goals as goal

pub load_rules-requires : goal.load_rules-requires
load_rules-requires c = let p = c.requires in
    record { fine = rules-fine _ _ _ c.in-Some.is p.fine; season = p.season; room = p.room; ends = p.ends }

pub returns-in-None : goal.returns-in-None
returns-in-None c = rules-none _ _ _ _ _ _ _ c.in-None.is c.no_tracks.ensures.0

pub returns-in-Some : goal.returns-in-Some
returns-in-Some c = rules-at _ _ _ _ _ _ _ _ c.in-Some.is c.load_rules.ensures
