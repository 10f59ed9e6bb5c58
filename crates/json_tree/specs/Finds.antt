-- A member of an object by its name.
use Rattle.std.specs.Prelude.{if◌then◌else◌, ℕ, List}
use Rattle.json_walk.specs.Strings.{same}
use Rattle.json_tree.specs.Tree.{Json, Fields, no_field, field}

-- The same in the tree: the value of the field of that name.
pub data Value? : Type 0 where
  none : Value?
  some : Json → Value?

unfoldable pub look_up : List ℕ → Fields → Value?
look_up x no_field = none
look_up x (field at name value fields) = let rest = look_up x fields in if same name x then some value else rest
