-- `loading::rules::load_rules` meets its contract: the places that were stored are those of the list's rules.
use mathlib.Core.Path.{refl}
use Rattle.loading.proofs.RuleLaws.{enough, places-long, places-fine, list-settled}
use Rattle.loading.proofs.rules.load_rules.Goals as goal

pub slice_bounds-places-end : goal.slice_bounds-places-end
slice_bounds-places-end c = enough _ _ c.requires.fine _ _ _ c.rule_places-n.ensures refl

pub slice_bounds-load_places-end : goal.slice_bounds-load_places-end
slice_bounds-load_places-end c = places-long _ _ c.requires.fine _ _ _ c.rule_places-n.ensures refl

pub load_places-requires : goal.load_places-requires
load_places-requires c = let p = c.requires in
    record { fine = places-fine _ _ p.fine _ _ _ c.rule_places-n.ensures refl; season = p.season; room = p.room; ends = p.ends }

pub returns : goal.returns
returns c = list-settled _ _ c.requires.fine _ _ _ c.rule_places-n.ensures refl _ _ _ _ _ c.load_places.ensures
