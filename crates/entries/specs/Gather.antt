-- The entries that a zone table is lent with, as the two runs of numbers that the library works over.
use Rattle.std.specs.Prelude.{List, map, ℤ}
use Rattle.entries.specs.declared.Transition.{Transition}

unfoldable pub instants_of : List Transition → List ℤ
instants_of entries = map (λ e. e.instant) entries

unfoldable pub offsets_of : List Transition → List ℤ
offsets_of entries = map (λ e. e.offset) entries
