-- Faults of member names: two equal ones in one object, or a backslash in one, in any object of the text.
use Rattle.std.specs.Prelude.{if◌then◌else◌, ℕ, zero, suc, Bool, true, false, List, [], ◌∷◌, ◌==◌}
use Rattle.json_text.specs.Bytes.{byte}
use Rattle.json_walk.specs.Walk.{members_of, elements_of}
use Rattle.json_walk.specs.Strings.{raw_at, same, slashed}
use Rattle.json_walk.specs.declared.Member.{Member}
use Rattle.json_walk.specs.declared.Element.{Element}

-- The name of a member: the raw bytes between its quotes.
abbrev pub name_of : List ℕ → Member → List ℕ
name_of s m = raw_at s m.name m.stop

-- Has one of the members this name?
unfoldable pub named : List ℕ → List ℕ → List Member → Bool
named s x [] = false
named s x (m ∷ ms) = let rest = named s x ms in if same x (name_of s m) then true else rest

-- Have two of the members equal names?
unfoldable pub repeats : List ℕ → List Member → Bool
repeats s [] = false
repeats s (m ∷ ms) = let rest = repeats s ms in if named s (name_of s m) ms then true else rest

-- Has one of the names a backslash?
unfoldable pub any_slashed : List ℕ → List Member → Bool
any_slashed s [] = false
any_slashed s (m ∷ ms) = let rest = any_slashed s ms in if slashed (name_of s m) then true else rest

-- Are the names of an object at fault?
unfoldable pub bad_names : List ℕ → List Member → Bool
bad_names s ms = if any_slashed s ms then true else repeats s ms

-- Does a test hold of the value of one of the members, of one of the elements?
unfoldable pub any_member : (ℕ → Bool) → List Member → Bool
any_member p [] = false
any_member p (m ∷ ms) = let rest = any_member p ms in if p m.value then true else rest

unfoldable pub any_element : (ℕ → Bool) → List Element → Bool
any_element p [] = false
any_element p (e ∷ es) = let rest = any_element p es in if p e.value then true else rest

-- An object is at fault if its names are, or one of its values is.
unfoldable pub object_fault : (ℕ → Bool) → List ℕ → ℕ → Bool
object_fault p s i = if bad_names s (members_of s i) then true else any_member p (members_of s i)

-- Is the value at i at fault, or any value in it? It opens at most so many levels.
unfoldable pub fault_at : ℕ → List ℕ → ℕ → Bool
fault_at zero s i = false
fault_at (suc l) s i =
    let o = object_fault (λ v. fault_at l s v) s i in
    let a = any_element (λ v. fault_at l s v) (elements_of s i) in
    if byte s i == 0x7B then o else
    if byte s i == 0x5B then a else
    false
