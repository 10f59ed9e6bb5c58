-- The places at which the values and the names of a text begin, of a string and of a name that of the opening quote.
use Rattle.std.specs.Prelude.{ℕ, Bool, false, ◌||◌, eqb}
use Rattle.json_tree.specs.Tree.{Json, Items, Fields, null_at, false_at, true_at, number_of, string_of, array_of, object_of, no_item, item, no_field, field}

-- Does a value begin at this place, or one that it holds, or a name?
unfoldable mutual
  pub begins : ℕ → Json → Bool
  begins p (null_at i) = eqb i p
  begins p (false_at i) = eqb i p
  begins p (true_at i) = eqb i p
  begins p (number_of i n) = eqb i p
  begins p (string_of i raw) = eqb i p
  begins p (array_of i items) = eqb i p || items_begin p items
  begins p (object_of i fields) = eqb i p || fields_begin p fields

  pub items_begin : ℕ → Items → Bool
  items_begin p no_item = false
  items_begin p (item value rest) = begins p value || items_begin p rest

  pub fields_begin : ℕ → Fields → Bool
  fields_begin p no_field = false
  fields_begin p (field at name value rest) = eqb at p || (begins p value || fields_begin p rest)
