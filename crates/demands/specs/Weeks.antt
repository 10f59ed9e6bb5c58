-- Request 1, of one call: the weeks of an upload log, from the sheet of a closure calendar. `before` and `after` are the lent places at entry and at
-- exit; `from` and `to` are the range's ends.
use Rattle.std.specs.Prelude.{if◌then◌else◌, ℕ, ◌+◌, ◌*◌, ◌<◌, Bool, true, not, List, [], ◌∷◌, ◌≡◌, eqb, leb, ℤ, pos, negsuc, ◌-ℤ◌, length, get_or, drop}
use Rattle.signed.specs.Parts.{pos_part}
use Rattle.rule.specs.Lists.{count_in}
use Rattle.sheet.specs.Runs.{tabulate}
use Rattle.sheet.specs.Records.{Row}
use Rattle.sheet.specs.Reading.{fault_of}
use Rattle.weeks.specs.Weeks.{weeks_in, is_reported, is_shut, is_missing, count, uploads_in}
use Rattle.weeks.specs.Replay.{ordered, is_range, replay_of, Replays}
use Rattle.weeks.specs.Sums.{sum, in_range}
use Rattle.demands.specs.Conditions.{Numbered, Given}

-- ---- demand 1

-- "Refused with 30 to 33, judged in this order: a log out of order; a range not from one Monday to the same or a later one; bytes that break document
-- 01's layout, ids and marks included; a lent buffer with fewer places than weeks."
unfoldable pub weeks_conditions : List ℤ → List ℕ → ℤ → ℤ → ℕ → List Numbered
weeks_conditions log sheet from to room =
    record { number = 30; holds = not (ordered log) }
    ∷ record { number = 31; holds = not (is_range from to) }
    ∷ record { number = 32; holds = not (eqb (fault_of sheet) 0) }
    ∷ record { number = 33; holds = not (leb (weeks_in from to) room) }
    ∷ []

-- "a refusal changes nothing", "refused tallies are 0"
pub record WeeksAnswered (log : List ℤ) (sheet : List ℕ) (from to : ℤ) (before : List ℤ) (answer reported shut missing : ℕ) (after : List ℤ) : Type 0 where
  pub one : Given (weeks_conditions log sheet from to (length before)) answer
  pub refused_tallies : (answer ≡ 0 → ⊥) → (reported ≡ 0) × ((shut ≡ 0) × (missing ≡ 0))
  pub refused_places : (answer ≡ 0 → ⊥) → after ≡ before

-- ---- a call that is answered 0

abbrev pub one : Bool → ℕ
one b = if b then 1 else 0

pub record WeeksSorted (log : List ℤ) (rows : List Row) (from to : ℤ) (before : List ℤ) (reported shut missing : ℕ) (after : List ℤ) : Type 0 where
  -- "Each week is reported (at least one upload in it), shut (none, and some record's span from UTC start to UTC end touches it) or missing
  -- (neither)": one of the three holds, and only one.
  pub one_class : (i : ℕ) → one (is_reported log from i) + one (is_shut log rows from i) + one (is_missing log rows from i) ≡ 1
  -- "Each week's place, a signed number, in order, gets its uploads, or -1 for shut, -2 for missing."
  pub reported_place : (i : ℕ) → i < weeks_in from to → is_reported log from i ≡ true → get_or after i (pos 0) ≡ pos (uploads_in log from i)
  pub shut_place : (i : ℕ) → i < weeks_in from to → is_shut log rows from i ≡ true → get_or after i (pos 0) ≡ negsuc 0
  pub missing_place : (i : ℕ) → i < weeks_in from to → is_missing log rows from i ≡ true → get_or after i (pos 0) ≡ negsuc 1
  -- "Each class's tally is its number of weeks; the three sum to the range's seconds divided by 604,800"
  pub reported_is : reported ≡ count_in (is_reported log from) 0 (weeks_in from to)
  pub shut_is : shut ≡ count_in (is_shut log rows from) 0 (weeks_in from to)
  pub missing_is : missing ≡ count_in (is_missing log rows from) 0 (weeks_in from to)
  pub tallies : reported + shut + missing ≡ weeks_in from to
  pub whole_weeks : 604800 * weeks_in from to ≡ pos_part (to -ℤ from)
  -- "uploads per week sum to the uploads of the log inside the range"
  pub uploads : sum (tabulate (uploads_in log from) 0 (weeks_in from to)) ≡ count (in_range from to) log
  -- "a buffer keeps what lies past the result"
  pub others : drop (weeks_in from to) after ≡ drop (weeks_in from to) before
  pub whole : length after ≡ length before

-- ---- demand 3: calls with the same log, range and places, each with a sheet of its own

pub record SameWeeks (answer answer' reported reported' shut shut' missing missing' : ℕ) (after after' : List ℤ) : Type 0 where
  pub answers : answer ≡ answer'
  pub reporteds : reported ≡ reported'
  pub shuts : shut ≡ shut'
  pub missings : missing ≡ missing'
  pub places : after ≡ after'

abbrev pub SameReplays : List ℕ → List ℕ → Type 0
SameReplays sheet sheet' =
    (log : List ℤ) (from to : ℤ) (before : List ℤ) (answer answer' reported reported' shut shut' missing missing' : ℕ) (after after' : List ℤ)
    → Replays (replay_of log sheet from to before) answer reported shut missing after
    → Replays (replay_of log sheet' from to before) answer' reported' shut' missing' after'
    → SameWeeks answer answer' reported reported' shut shut' missing missing' after after'

-- The sheet shuts no week: whatever the log, the range and the places, the tally of shut weeks is 0.
abbrev pub ShutsNothing : List ℕ → Type 0
ShutsNothing sheet =
    (log : List ℤ) (from to : ℤ) (before : List ℤ) (answer reported shut missing : ℕ) (after : List ℤ)
    → Replays (replay_of log sheet from to before) answer reported shut missing after → shut ≡ 0
