-- What is read of a text, with what is wrong in it. A value by itself is judged by a number; where it stands in the text is said once, here.
use Rattle.std.specs.Prelude.{if◌then◌else◌, ℕ, List, [], ◌∷◌, ◌++◌, ltb, length}
use Rattle.std.proofs.Math.Option.{Option, none, some}
use Rattle.fault.specs.declared.Fault.{Fault}
use Rattle.fault.specs.Fault.{faults_at}
use Rattle.json_tree.specs.Tree.{Json, place_of}

-- ---- one value

-- A value that was read, and the number of its fault, 0 where it has none.
pub record Reading (A : Type 0) : Type 0 where
  pub value : A
  pub fault : ℕ

abbrev pub right : {A : Type 0} → A → Reading A
right a = record { value = a; fault = 0 }

-- A fault, with a value that stands in for what could not be read.
abbrev pub wrong : {A : Type 0} → A → ℕ → Reading A
wrong a n = record { value = a; fault = n }

-- What a value gives, or the number of what it is not.
unfoldable pub or_wrong : {A B : Type 0} → B → ℕ → (A → Reading B) → Option A → Reading B
or_wrong b n f none = wrong b n
or_wrong b n f (some a) = f a

-- A member that may be absent.
unfoldable pub optional : {A : Type 0} → A → (Json → Reading A) → Option Json → Reading A
optional default f none = right default
optional default f (some v) = f v

-- A member that must be there: 26, "anything else".
unfoldable pub required : {A : Type 0} → A → (Json → Reading A) → Option Json → Reading A
required a f none = wrong a 26
required a f (some v) = f v

-- A member that gives a value where it is there.
unfoldable pub maybe : {A : Type 0} → (Json → Reading A) → Option Json → Reading (Option A)
maybe f none = right none
maybe f (some v) = let r = f v in record { value = some r.value; fault = r.fault }

-- ---- an object or a list

-- What was read of it, and every fault in it. 01: "7 to 9 are judged on what 6 let through": what is wrong does not keep the rest from being judged.
pub record Judged (A : Type 0) : Type 0 where
  pub value : A
  pub faults : List Fault

abbrev pub fine : {A : Type 0} → A → Judged A
fine a = record { value = a; faults = [] }

abbrev pub faulty : {A : Type 0} → A → ℕ → ℕ → Judged A
faulty a n place = record { value = a; faults = faults_at n place }

-- 02, 4: "a missing member counts at its object", whose place is given.
unfoldable pub place_in : ℕ → Option Json → ℕ
place_in at none = at
place_in at (some v) = place_of v

-- A member of the object at that place, read and placed; and an entry of a list.
unfoldable pub placed : {A : Type 0} → ℕ → (Option Json → Reading A) → Option Json → Judged A
placed at f v = let r = f v in faulty r.value r.fault (place_in at v)

unfoldable pub entry : {A : Type 0} → (Json → Reading A) → Json → Judged A
entry f v = let r = f v in faulty r.value r.fault (place_of v)

-- What an object or an array at that place gives, or 20, "wrong JSON type".
unfoldable pub inside : {A B : Type 0} → B → ℕ → (A → Judged B) → Option A → Judged B
inside b at f none = faulty b 20 at
inside b at f (some a) = f a

-- A list or an object that may be absent.
unfoldable pub present : {A : Type 0} → A → (Json → Judged A) → Option Json → Judged A
present default f none = fine default
present default f (some v) = f v

-- "A member that is unsupported as a whole answers 8 whatever it holds."
unfoldable pub unsupported : Option Json → List Fault
unsupported none = []
unsupported (some v) = faults_at 8 (place_of v)

-- All entries of a list, also of one that is longer than it may be.
unfoldable pub read_all : {A : Type 0} → (Json → Judged A) → List Json → Judged (List A)
read_all f [] = fine []
read_all f (v ∷ vs) =
    let one = f v in
    let rest = read_all f vs in
    record { value = one.value ∷ rest.value; faults = one.faults ++ rest.faults }

-- Over so many entries in the list at that place: 9.
unfoldable pub limited : {A : Type 0} → ℕ → ℕ → Judged (List A) → Judged (List A)
limited most at r = record { value = r.value; faults = r.faults ++ (if ltb most (length r.value) then faults_at 9 at else []) }
