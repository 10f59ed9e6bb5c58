-- The call of request 1: its number, its tallies, and what it leaves in the lent places.
use Rattle.std.specs.Prelude.{if◌then◌else◌, ℕ, Bool, true, not, ◌&&◌, List, [], ◌∷◌, ◌++◌, ◌≡◌, leb, eqb, ℤ, length, drop}
use Rattle.std.specs.Int.Signed.{le_z}
use Rattle.rule.specs.Lists.{count_in}
use Rattle.sheet.specs.Runs.{tabulate}
use Rattle.sheet.specs.Records.{Row}
use Rattle.sheet.specs.Reading.{rows_of, fault_of}
use Rattle.weeks.specs.Weeks.{is_monday, weeks_in, is_reported, is_shut, is_missing, place_of}

-- ---- "Refused with 30 to 33, judged in this order"

-- "a log of upload instants (signed seconds, not decreasing)"
unfoldable pub ordered : List ℤ → Bool
ordered [] = true
ordered (t ∷ []) = true
ordered (t ∷ u ∷ log) = le_z t u && ordered (u ∷ log)

-- "a range not from one Monday to the same or a later one" is none.
unfoldable pub is_range : ℤ → ℤ → Bool
is_range from to = is_monday from && is_monday to && le_z from to

-- "a log out of order; a range not from one Monday to the same or a later one; bytes that break document 01's layout, ids and marks included; a lent
-- buffer with fewer places than weeks"
unfoldable pub refusal : List ℤ → List ℕ → ℤ → ℤ → ℕ → ℕ
refusal log sheet from to room =
    if not (ordered log) then 30
    else if not (is_range from to) then 31
    else if not (eqb (fault_of sheet) 0) then 32
    else if not (leb (weeks_in from to) room) then 33
    else 0

-- ---- what the call hands back

pub record Replay : Type 0 where
  pub answer : ℕ
  pub reported : ℕ
  pub shut : ℕ
  pub missing : ℕ
  pub places : List ℤ

-- "Each class's tally is its number of weeks"; "a buffer keeps what lies past the result".
unfoldable pub sorted : List ℤ → List Row → ℤ → ℕ → List ℤ → Replay
sorted log rows from n places =
    record {
      answer = 0;
      reported = count_in (is_reported log from) 0 n;
      shut = count_in (is_shut log rows from) 0 n;
      missing = count_in (is_missing log rows from) 0 n;
      places = tabulate (place_of log rows from) 0 n ++ drop n places;
    }

-- "a refusal changes nothing"; "refused tallies are 0"
unfoldable pub refused : ℕ → List ℤ → Replay
refused answer places = record { answer = answer; reported = 0; shut = 0; missing = 0; places = places }

unfoldable pub replay_of : List ℤ → List ℕ → ℤ → ℤ → List ℤ → Replay
replay_of log sheet from to places =
    let done = sorted log (rows_of sheet) from (weeks_in from to) places in
    if eqb (refusal log sheet from to (length places)) 0 then done else refused (refusal log sheet from to (length places)) places

-- A call's results, held against the definition: its number, the three tallies, and every place that was lent.
pub record Replays (r : Replay) (answer reported shut missing : ℕ) (places : List ℤ) : Type 0 where
  pub answer_is : answer ≡ r.answer
  pub reported_is : reported ≡ r.reported
  pub shut_is : shut ≡ r.shut
  pub missing_is : missing ≡ r.missing
  pub places_are : places ≡ r.places
