-- Worked weeks: Mondays before and after 1970, spans at the edges of a week, and whole calls with 01's worked sheet, done and refused.
use mathlib.Core.Bool.{true, false}
use mathlib.Core.List.{List, [], ◌∷◌}
use mathlib.Core.Path.{◌≡◌, refl}
use Prim.Native.Nat.{ℕ}
use lib.IntN.{ℤ, pos, negsuc}
use Rattle.little_endian.specs.Bytes.{value_of, signed_of, number_at}
use Rattle.rule.specs.Lists.{any, count_in}
use Rattle.sheet.specs.Runs.{tabulate, every}
use Rattle.sheet.specs.Records.{Row, id_at, start_at, end_at, marks_at, zeros_at, row_at}
use Rattle.sheet.specs.Reading.{size_of, version_of, count_of, distance_of, rows_of, fault_in_rows, fault_of}
use Rattle.sheet.proofs.Worked.{sheet}
use Rattle.weeks.specs.Weeks.{modulo, is_monday, weeks_in, week_start, in_week, touches, is_reported, is_shut, is_missing, count, uploads_in, place_of}
use Rattle.weeks.specs.Replay.{ordered, is_range, refusal, sorted, refused, replay_of}
use Rattle.weeks.specs.Calendar.{floor_weeks, week_of}

-- ---- Mondays: 1970-01-05, 1969-12-29; not 1970-01-01, nor a second after a Monday's midnight

pub mondays :
    is_monday (pos 345600) ∷ is_monday (negsuc 259199) ∷ is_monday (pos 0) ∷ is_monday (pos 345601) ∷ []
    ≡ true ∷ true ∷ false ∷ false ∷ []
unfolding modulo
mondays = refl

-- the weeks of 1970-01-05, of 1970-01-04, and of the last second of 1969-12-28
pub weeks-of : week_of (pos 345600) ∷ week_of (pos 345599) ∷ week_of (negsuc 259200) ∷ [] ≡ pos 0 ∷ negsuc 0 ∷ negsuc 1 ∷ []
unfolding week_of floor_weeks
weeks-of = refl

-- ---- spans in a range from 1970-01-05, whose week 1 is from 950,400 to 1,555,200

abbrev span : ℕ → ℕ → Row
span start end = record { id = pos 0; start = pos start; end = pos end; marks = 0 }

-- "A span takes in its start and not its end": to the Monday, past it by a second, from the last second of the week, from the next Monday
pub edges :
    touches (pos 345600) 1 (span 0 950400) ∷ touches (pos 345600) 1 (span 0 950401) ∷ touches (pos 345600) 1 (span 1555199 2000000) ∷ touches (pos 345600) 1 (span 1555200 2000000) ∷ []
    ≡ false ∷ true ∷ true ∷ false ∷ []
unfolding touches week_start in_week
edges = refl

-- "one with its end at or before its start touches the week of its start": at the Monday, and with its end long before
pub instants :
    touches (pos 345600) 1 (span 950400 950400) ∷ touches (pos 345600) 1 (span 1555199 0) ∷ touches (pos 345600) 0 (span 1555199 0) ∷ []
    ≡ true ∷ true ∷ false ∷ []
unfolding touches week_start in_week
instants = refl

-- ---- whole calls. 01's worked sheet: one record, from 2018-01-15T18:00:00Z to 19:00:00Z, a Monday

-- Two uploads in the week of 2018-01-08, one at the range's end, which is outside. The fourth place keeps its value.
pub sorted-weeks :
    replay_of (pos 1515369600 ∷ pos 1515369601 ∷ pos 1517184000 ∷ []) sheet (pos 1515369600) (pos 1517184000) (pos 7 ∷ pos 7 ∷ pos 7 ∷ pos 7 ∷ [])
    ≡ record { answer = 0; reported = 1; shut = 1; missing = 1; places = pos 2 ∷ negsuc 0 ∷ negsuc 1 ∷ pos 7 ∷ [] }
unfolding replay_of refusal sorted ordered is_range modulo weeks_in week_start in_week touches is_reported is_shut is_missing count uploads_in place_of any count_in tabulate rows_of row_at start_at end_at fault_of fault_in_rows size_of version_of count_of distance_of id_at marks_at zeros_at number_at value_of signed_of every
sorted-weeks = refl

-- "the same or a later one": no weeks, no places
pub no-weeks : replay_of [] sheet (pos 345600) (pos 345600) [] ≡ record { answer = 0; reported = 0; shut = 0; missing = 0; places = [] }
unfolding replay_of refusal sorted ordered is_range modulo weeks_in is_reported is_shut is_missing place_of count_in tabulate fault_of fault_in_rows size_of version_of count_of distance_of id_at marks_at zeros_at number_at value_of signed_of every
no-weeks = refl

-- ---- a log in order, with equal instants; one that is not, at its third; a refused call, whose places keep their values

pub orders : ordered (pos 1 ∷ pos 1 ∷ pos 2 ∷ []) ∷ ordered (negsuc 1 ∷ pos 1 ∷ pos 0 ∷ []) ∷ [] ≡ true ∷ false ∷ []
unfolding ordered
orders = refl

pub refused-call :
    replay_of (pos 1 ∷ pos 0 ∷ []) sheet (pos 345600) (pos 950400) (pos 7 ∷ []) ≡ record { answer = 30; reported = 0; shut = 0; missing = 0; places = pos 7 ∷ [] }
unfolding replay_of refusal refused ordered
refused-call = refl

-- ---- refusals: all four at once, then without the first, and so on

abbrev given : List ℤ → List ℕ → ℤ → ℕ
given log bytes from = refusal log bytes from (pos 1555200) 1

pub four :
    given (pos 1 ∷ pos 0 ∷ []) [] (pos 0) ∷ given (pos 0 ∷ pos 0 ∷ []) [] (pos 0) ∷ given [] [] (pos 345600) ∷ given [] sheet (pos 345600) ∷ given [] sheet (pos 950400) ∷ []
    ≡ 30 ∷ 31 ∷ 32 ∷ 33 ∷ 0 ∷ []
unfolding refusal ordered is_range modulo weeks_in fault_of fault_in_rows size_of version_of count_of distance_of id_at marks_at zeros_at number_at value_of signed_of every
four = refl
