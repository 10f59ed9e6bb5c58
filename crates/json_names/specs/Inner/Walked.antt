-- What the walk over the members of an object asks: only the code does; what a fault is says `Names`.
use Rattle.std.specs.Prelude.{if◌then◌else◌, ℕ, Bool, true, false, List, [], ◌∷◌, ◌==◌}
use Rattle.json_walk.specs.Strings.{slashed}
use Rattle.json_walk.specs.declared.Member.{Member}
use Rattle.json_names.specs.Inner.Names.{name_of}

-- Does an object or an array begin with this byte?
unfoldable pub opener : ℕ → Bool
opener b = if b == 0x7B then true else (b == 0x5B)

-- Has one of the members a backslash in its name, or a value at fault?
unfoldable pub any_fault : (ℕ → Bool) → List ℕ → List Member → Bool
any_fault p s [] = false
any_fault p s (m ∷ ms) =
    let rest = any_fault p s ms in
    let here = if p m.value then true else rest in
    if slashed (name_of s m) then true else here
