-- The kind and the place of a value: the code asks for the kind before it reads.
use Rattle.std.specs.Prelude.{if◌then◌else◌, ℕ, List, eqb}
use Rattle.json_text.specs.Bytes.{byte}
use Rattle.json_tree.specs.declared.Kind.{Kind}
use Rattle.json_tree.specs.declared.Kind.TheVariants as kind
use Rattle.json_tree.specs.Tree.{Json, null_at, false_at, true_at, number_of, string_of, array_of, object_of}

abbrev pub kind_of : Json → Kind
kind_of (null_at i) = kind.Null
kind_of (false_at i) = kind.False
kind_of (true_at i) = kind.True
kind_of (number_of i n) = kind.Number
kind_of (string_of i raw) = kind.String
kind_of (array_of i items) = kind.Array
kind_of (object_of i fields) = kind.Object

-- The kind of the value at a place, by its first byte.
unfoldable pub kind_at : List ℕ → ℕ → Kind
kind_at s i =
    if eqb (byte s i) 0x7B then kind.Object else
    if eqb (byte s i) 0x5B then kind.Array else
    if eqb (byte s i) 0x22 then kind.String else
    if eqb (byte s i) 0x66 then kind.False else
    if eqb (byte s i) 0x6E then kind.Null else
    if eqb (byte s i) 0x74 then kind.True else
    kind.Number
