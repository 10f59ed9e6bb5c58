-- 02, request 4: "Each carries the byte place, from 0, at which the first such value in the text begins .. The earliest place decides, then the
-- lowest number .. The order against the other numbers is that of 6".
use Rattle.std.specs.Prelude.{if◌then◌else◌, ℕ, Bool, true, false, List, [], ◌∷◌, ◌++◌, eqb, ltb, leb, Option, Some, None}
use Rattle.fault.specs.declared.Fault.{Fault}

-- A fault: its number, 7 to 9 or 20 to 26, and the place of the value that has it.
abbrev pub a_fault : ℕ → ℕ → Fault
a_fault number place = record { number = number; place = place }

-- The fault that decides, or none.
abbrev pub First : Type 0
First = Option Fault

-- What the judgement of a value adds to the list of faults: 0 is no fault.
unfoldable pub faults_at : ℕ → ℕ → List Fault
faults_at number place = if eqb number 0 then [] else a_fault number place ∷ []

-- The faults of the parts of something that is read, one part after the other.
unfoldable pub all_of : List (List Fault) → List Fault
all_of [] = []
all_of (part ∷ parts) = part ++ all_of parts

-- 20 to 26 stand where 6 stood.
unfoldable pub is_wrong : ℕ → Bool
is_wrong n = leb 20 n

unfoldable pub order : ℕ → ℕ
order n = if is_wrong n then 6 else n

-- Does the fault n at p decide against m at q: by the order of the numbers, then by the place, then by the number?
unfoldable pub decides : ℕ → ℕ → ℕ → ℕ → Bool
decides n p m q =
    if ltb (order n) (order m) then true else
    if ltb (order m) (order n) then false else
    if ltb p q then true else
    if ltb q p then false else
    leb n m

-- The one of two that decides, where both may be none; and that of a list.
unfoldable pub lower : First → First → First
lower None b = b
lower (Some f) None = Some f
lower (Some f) (Some g) = if decides f.number f.place g.number g.place then Some f else Some g

unfoldable pub first : List Fault → First
first [] = None
first (f ∷ l) = lower (Some f) (first l)

-- Its number, 0 where there is none. Only 20 to 26 carry a place.
abbrev pub first_number : First → ℕ
first_number None = 0
first_number (Some f) = f.number

abbrev pub first_place : First → ℕ
first_place None = 0
first_place (Some f) = if is_wrong f.number then f.place else 0
