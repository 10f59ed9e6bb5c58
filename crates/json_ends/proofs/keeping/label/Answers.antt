-- `json_ends::keeping::label` meets its contract.
use mathlib.Core.Path.{sym, ◌∙◌}
use Rattle.json_ends.proofs.Laws.{string-kept}
use Rattle.json_ends.proofs.keeping.label.Goals as goal

pub keep-requires : goal.keep-requires
keep-requires c = (string-kept 0 _ _ _ (sym c.string.ensures ∙ c.in_ok-end.was), c.requires)
