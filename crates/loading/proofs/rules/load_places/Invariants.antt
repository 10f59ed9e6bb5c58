-- `loading::rules::load_places` meets its contract: each turn settles one rule more.
use Rattle.loading.proofs.RuleLaws.{LoadedTo}
use Rattle.loading.proofs.rules.load_places.Given as goal

abbrev pub invariant-loop-at : goal.invariant-loop-at
invariant-loop-at l = LoadedTo l.excluded l.start l.limit l.text l.places l.tracks l.flags l.at-index
