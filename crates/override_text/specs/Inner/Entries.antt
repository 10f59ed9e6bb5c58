-- The overrides of the members of a walk. Their patches' values are trees so many levels deep.
use Rattle.std.specs.Prelude.{ℕ, suc, List}
use Rattle.json_walk.specs.declared.Member.{Member}
use Rattle.json_tree.specs.Tree.{fields_of, tree_at}
use Rattle.event.specs.Types.{Details, Override}
use Rattle.event.specs.Reading.{Judged}
use Rattle.event.specs.Overrides.{overrides_in}

unfoldable pub entries_in : ℕ → Details → List ℕ → List Member → Judged (List Override)
entries_in l own s ms = overrides_in own (fields_of (λ v. tree_at (suc l) s v) s ms)
