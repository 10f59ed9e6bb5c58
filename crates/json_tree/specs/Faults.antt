-- 01, 4: "two equal member names in one object, or a backslash in any member name".
use Rattle.std.specs.Prelude.{if◌then◌else◌, ℕ, Bool, true, false, List}
use Rattle.json_walk.specs.Strings.{same, slashed}
use Rattle.json_tree.specs.Tree.{Json, Items, Fields, null_at, false_at, true_at, number_of, string_of, array_of, object_of, no_item, item, no_field, field}

-- Has a field this name?
unfoldable pub field_named : List ℕ → Fields → Bool
field_named x no_field = false
field_named x (field at name value rest) = if same x name then true else field_named x rest

-- Have two fields equal names?
unfoldable pub fields_repeat : Fields → Bool
fields_repeat no_field = false
fields_repeat (field at name value rest) = if field_named name rest then true else fields_repeat rest

-- Has a name a backslash?
unfoldable pub fields_slashed : Fields → Bool
fields_slashed no_field = false
fields_slashed (field at name value rest) = if slashed name then true else fields_slashed rest

unfoldable pub fields_bad : Fields → Bool
fields_bad fields = if fields_slashed fields then true else fields_repeat fields

-- Is a value at fault, or one that it holds?
unfoldable mutual
  pub faulty : Json → Bool
  faulty (null_at i) = false
  faulty (false_at i) = false
  faulty (true_at i) = false
  faulty (number_of i n) = false
  faulty (string_of i raw) = false
  faulty (array_of i items) = items_faulty items
  faulty (object_of i fields) = if fields_bad fields then true else fields_faulty fields

  pub items_faulty : Items → Bool
  items_faulty no_item = false
  items_faulty (item value rest) = if faulty value then true else items_faulty rest

  pub fields_faulty : Fields → Bool
  fields_faulty no_field = false
  fields_faulty (field at name value rest) = if faulty value then true else fields_faulty rest
