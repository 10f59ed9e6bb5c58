-- The names of a patch, by the members of the walk.
use Rattle.std.specs.Prelude.{ℕ, Bool, true, false, List, [], ◌∷◌, None}
use Rattle.fault.specs.Fault.{lower, first, First}
use Rattle.json_walk.specs.Strings.{raw_at}
use Rattle.json_walk.specs.declared.Member.{Member}
use Rattle.event.specs.Overrides.{name_fault}

-- Of members, each with a fault of its own, the one that decides.
unfoldable pub lowest : (Member → First) → List Member → First
lowest f [] = None
lowest f (m ∷ ms) = lower (f m) (lowest f ms)

-- The fault of a member's name.
abbrev pub of_name : List ℕ → Member → First
of_name s m = first (name_fault m.name (raw_at s m.name m.stop))

-- Is there no second member?
unfoldable pub single : List Member → Bool
single [] = true
single (m ∷ []) = true
single (m ∷ n ∷ ms) = false
