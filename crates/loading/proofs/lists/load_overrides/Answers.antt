-- `loading::lists::load_overrides` meets its contract: no overrides, or those at the place.
use Rattle.loading.proofs.PlaceLaws.{overrides-none, overrides-at}
use Rattle.loading.proofs.lists.load_overrides.Goals as goal

pub returns-in-None : goal.returns-in-None
returns-in-None c = overrides-none _ _ _ _ _ c.in-None.is

pub returns-in-Some : goal.returns-in-Some
returns-in-Some c = λ own. overrides-at _ _ _ _ _ _ _ _ _ _ c.in-Some.is own (c.overrides.ensures 13 own)
