-- A member of an object by its name, by its place in the text.
use Rattle.std.specs.Prelude.{if◌then◌else◌, ℕ, List, [], ◌∷◌, Option, Some, None}
use Rattle.json_walk.specs.Strings.{raw_at, same}
use Rattle.json_walk.specs.declared.Member.{Member}
use Rattle.json_tree.specs.Tree.{Json}
use Rattle.json_tree.specs.Finds.{Value?, none, some}

-- The first of the members whose name is x.
unfoldable pub find_in : List ℕ → List ℕ → List Member → Option Member
find_in s x [] = None
find_in s x (m ∷ ms) = let rest = find_in s x ms in if same (raw_at s m.name m.stop) x then Some m else rest

-- What was found, as a tree.
abbrev pub value_found : (ℕ → Json) → Option Member → Value?
value_found tree (Some m) = some (tree m.value)
value_found tree None = none
