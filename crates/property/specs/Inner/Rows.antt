-- A row: the members of an object by the numbers of their names.
use Rattle.std.specs.Prelude.{if◌then◌else◌, ℕ, zero, suc, ◌<◌, ◌≤◌, List, ◌≡◌, eqb, length, get_or, set, Option, Some, None}
use Rattle.json_walk.specs.Walk.{members_of}
use Rattle.json_tree.specs.Inner.Members.{find_in}
use Rattle.json_walk.specs.declared.Member.{Member}
use Rattle.property.specs.Inner.Vocabulary.{word_of}
use Rattle.property.specs.Inner.Place.{Place}

-- The place of the value of a member that was looked for.
abbrev pub placed : Option Member → Place
placed (Some m) = Some m.value
placed None = None

-- What an entry of a row says: 0 is no place.
abbrev pub spot : ℕ → Place
spot zero = None
spot (suc i) = Some (suc i)

-- A row with nothing in it.
unfoldable pub Blank : List ℕ → Type 0
Blank row = (w : ℕ) → get_or row w 0 ≡ 0

-- The row says of each of its numbers where the object at a place has the member of that name.
unfoldable pub Row : List ℕ → ℕ → List ℕ → Type 0
Row s at row = (w : ℕ) → w < length row → spot (get_or row w 0) ≡ placed (find_in s (word_of w) (members_of s at))

-- It has at least n numbers.
abbrev pub RowTo : ℕ → List ℕ → ℕ → List ℕ → Type 0
RowTo n s at row = Row s at row × (n ≤ length row)

-- A row with a value noted under a number that has none.
unfoldable pub noted : List ℕ → ℕ → ℕ → List ℕ
noted row w value = if eqb (get_or row w 0) 0 then set row w value else row
