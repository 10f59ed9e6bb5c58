-- The member of that name of the object at a place, in a tree whose values are l levels deep.
use Rattle.std.specs.Prelude.{ℕ, List}
use Rattle.std.proofs.Math.Option.{Option}
use Rattle.json_tree.specs.Tree.{Json}
use Rattle.event.specs.Values.{member}
use Rattle.property.specs.Inner.From.{fields_in}

abbrev pub member_at : ℕ → List ℕ → ℕ → List ℕ → Option Json
member_at l s i name = member name (fields_in l s i)
