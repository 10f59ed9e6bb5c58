-- What is said of a list of cases.
use Rattle.std.specs.Prelude.{ℕ, List, map, ◌≡◌, ℤ, pos, neg_ℤ, length, replicate}
use Rattle.call_definitions.specs.Answer.{Outcome, expanded}
use Rattle.worked_dates.specs.Inner.Written.{Case}

-- The widest window.
abbrev pub first : ℤ
first = neg_ℤ (pos 11644473600)

abbrev pub last : ℤ
last = pos 253370764800

-- A buffer that the table of a case fills.
abbrev pub room : Case → List ℕ
room c = replicate (length c.table) 7

-- The answer is 0, the length is the table's, and the buffer is the table.
abbrev pub wanted : Case → Outcome
wanted c = record { answer = 0; length = length c.table; buffer = c.table }

abbrev pub Worked : List Case → Type 0
Worked cases = map (λ (c : Case). expanded c.zones c.event first last (room c)) cases ≡ map wanted cases
