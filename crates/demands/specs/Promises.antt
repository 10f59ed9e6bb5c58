-- The mission's three demands, sentence by sentence, of every call. A reader begins here.
--
-- A call is spoken of by what it hands back, and the premise about it is the contract of the function, word for word:
--     Gives (expandText ..)     smocurant_expand, smocurant_expand_entries
--     Shows (titleOf ..)        smocurant_title                    Shows (descriptionOf ..)   smocurant_description
--     Tells (titleOf ..)        texts::calls::title                Tells (descriptionOf ..)   texts::calls::description
--     Locates (locateText ..)   smocurant_locate
--     Replays (replayOf ..)     smocurant_weeks
--     Summarises (summaryOf ..) smocurant_read                     Fetches (fetchOf ..)       smocurant_record
--     FetchesRun (run_of ..)     smocurant_records
-- So is the premise about an inner function, where a request says how it does its work:
--     .. ≡ searchBy 11 ..       zone::search::search
-- One value has this type: proofs/Promises `promises`.
use Rattle.std.specs.Prelude.{ℕ, ◌≤◌, true, false, List, [], ◌↔◌, ◌≡◌, ℤ, pos, ◌+ℤ◌, length, take}
use Rattle.std.proofs.Math.Option.{Option}
use Rattle.std.specs.Int.Signed.{lt_z}
use Rattle.little_endian.specs.Bytes.{AllBytes}
use Rattle.zone.specs.declared.search.Found.{Found}
use Rattle.zone.specs.Table.{valid_table}
use Rattle.zone.specs.Places.{mark_at}
use Rattle.zone.specs.Search.{search_by}
use Rattle.zone.specs.Halving.{Halving}
use Rattle.sheet.specs.Records.{Row}
use Rattle.sheet.specs.Writing.{sheet_of}
use Rattle.sheet.specs.Reading.{rows_of, fault_of}
use Rattle.sheet.specs.Fetching.{summary_of, fetch_of, run_of, Summarises, Fetches, FetchesRun}
use Rattle.weeks.specs.Weeks.{is_monday, in_week, touches}
use Rattle.weeks.specs.Touching.{Shares}
use Rattle.weeks.specs.Calendar.{week_of}
use Rattle.weeks.specs.Replay.{replay_of, Replays}
use Rattle.keywords.specs.declared.Privacy.TheVariants.{Public, Private, Secret}
use Rattle.event.specs.Types.{Text, Details}
use Rattle.event.specs.Event.{event_of}
use Rattle.call_definitions.specs.Agree.{Agree, Accepted}
use Rattle.call_definitions.specs.Answer.{is_secret}
use Rattle.call_definitions.specs.Utc.{ZoneTable}
use Rattle.call_definitions.specs.Call.{Shown, text_fault, locate_text, expand_text, title_of, description_of}
use Rattle.call_definitions.specs.Results.{Gives, Locates, Shows, Tells}
use Rattle.demands.specs.Conditions.{Numbered, Given, applies, rank, InOrder, text_conditions, table_conditions, words_conditions}
use Rattle.demands.specs.Sheet.{HasSheet}
use Rattle.demands.specs.One.{TableAnswered, PlaceAnswered, TextAnswered, PartAnswered}
use Rattle.demands.specs.Two.{Listed, Told, PartTold}
use Rattle.demands.specs.Three.{SameTable, PrivateTable, SameText, SamePart}
use Rattle.demands.specs.Weeks.{weeks_conditions, WeeksAnswered, WeeksSorted, SameReplays, ShutsNothing}
use Rattle.demands.specs.Reading.{sheet_conditions, record_conditions, ReadAnswered, RecordAnswered, Slices, RunAnswered, ReadBack, SameReadings, NoRecords}

-- The calls for the sheet.
pub record TablePromises : Type 0 where
  -- 1. "Whatever bytes, zone table, window or buffer arrive, a call ends with one answer: the lowest number of the table whose condition holds. A
  -- refused call reports length 0, hands out no words and changes no byte of the lent buffer."
  pub answered : (zones : ZoneTable) (s : List ℕ) (from to : ℤ) (buffer : List ℕ) (answer size : ℕ) (after : List ℕ)
      → Gives (expand_text zones s from to buffer) answer size after → TableAnswered zones s from to buffer answer size after
  -- 2. "When an accepted event that is not secret is answered 0, the recurrence ids on the sheet strictly increase, and a date-time of the window is
  -- there exactly when no override excludes it and either an override names it, or it is the start or a rule gives it, and no excluded rule does.
  -- RFC 8984 decides, in the written profile. UTC times, marks and words are those of the same document."
  pub listed : (zones : ZoneTable) (s : List ℕ) (from to : ℤ) (buffer : List ℕ) → text_fault s ≡ 0 → is_secret (event_of s).privacy ≡ false
      → (answer size : ℕ) (after : List ℕ) → Gives (expand_text zones s from to buffer) answer size after → answer ≡ 0
      → Listed zones (event_of s) from to buffer size after
  -- 3. "Take any two accepted private events that agree on start, zone, length, busy mark, all-day mark, rules and excluded rules, and, for each
  -- override date, on its presence, its exclusion and what its patches make of start, length and the two marks. Whatever zone table, window and
  -- buffer come in, the same for both, the planner gets the same answer, the same length and the same bytes in the whole buffer. They are those of
  -- demands 1 and 2." Request 2: "Demand 3 reads as before, with length meaning both parts."
  pub private : (s t : List ℕ) → Accepted Private s → Accepted Private t → Agree (event_of s) (event_of t)
      → (zones : ZoneTable) (from to : ℤ) (buffer : List ℕ) (answer answer' size size' : ℕ) (after after' : List ℕ)
      → Gives (expand_text zones s from to buffer) answer size after → Gives (expand_text zones t from to buffer) answer' size' after'
      → SameTable answer answer' size size' after after' × PrivateTable zones s from to buffer answer size after
  -- 3. "Now take any two accepted secret events. Whatever else they hold, and whatever zone table, window and buffer come in, the same for both, the
  -- answer, the length and the bytes in the whole buffer are the same, and a sheet answered 0 has no records."
  pub secret : (s t : List ℕ) → Accepted Secret s → Accepted Secret t
      → (zones : ZoneTable) (from to : ℤ) (buffer : List ℕ) (answer answer' size size' : ℕ) (after after' : List ℕ)
      → Gives (expand_text zones s from to buffer) answer size after → Gives (expand_text zones t from to buffer) answer' size' after'
      → SameTable answer answer' size size' after after' × (answer ≡ 0 → HasSheet 0 size buffer after)

-- The calls for a text, by its place and by the part itself: `call` is what the definitions say of it, `which` the text that it is for.
pub record TextPromises (call : List ℕ → ℤ → Shown) (which : Details → Option Text) : Type 0 where
  -- 1. ".. a call ends with one answer: the lowest number of the table whose condition holds. A refused call .. hands out no words".
  pub answered : (s : List ℕ) (date : ℤ) (answer start size : ℕ) → Shows (call s date) answer start size → TextAnswered s date answer start size
  pub answered_part : (s : List ℕ) (date : ℤ) (answer : ℕ) (part : List ℕ) → Tells (call s date) s answer part → PartAnswered s date answer part
  -- 2. "UTC times, marks and words are those of the same document."
  pub told : (s : List ℕ) → Accepted Public s → (date : ℤ) (answer start size : ℕ) → Shows (call s date) answer start size → answer ≡ 0
      → Told which s (event_of s) date start size
  pub told_part : (s : List ℕ) → Accepted Public s → (date : ℤ) (answer : ℕ) (part : List ℕ) → Tells (call s date) s answer part → answer ≡ 0
      → PartTold which (event_of s) date part
  -- "words only where the event is public": of a private event no words come out, whatever date.
  pub silent : (s : List ℕ) → Accepted Private s → (date : ℤ) (answer start size : ℕ) → Shows (call s date) answer start size
      → (start ≡ 0) × (size ≡ 0)
  pub silent_part : (s : List ℕ) → Accepted Private s → (date : ℤ) (answer : ℕ) (part : List ℕ) → Tells (call s date) s answer part → part ≡ []
  -- 3. "Whatever date is asked of both, for the title or for the description, the answer number is the same and no words come out."
  pub private : (s t : List ℕ) → Accepted Private s → Accepted Private t → Agree (event_of s) (event_of t)
      → (date : ℤ) (answer answer' start start' size size' : ℕ)
      → Shows (call s date) answer start size → Shows (call t date) answer' start' size' → SameText answer answer' start start' size size'
  pub private_part : (s t : List ℕ) → Accepted Private s → Accepted Private t → Agree (event_of s) (event_of t)
      → (date : ℤ) (answer answer' : ℕ) (part part' : List ℕ)
      → Tells (call s date) s answer part → Tells (call t date) t answer' part' → SamePart answer answer' part part'
  -- 3. "Every request for words about either is answered 14." By demand 1 no words come out.
  pub secret : (s : List ℕ) → Accepted Secret s → (date : ℤ) (answer start size : ℕ) → Shows (call s date) answer start size → answer ≡ 14
  pub secret_part : (s : List ℕ) → Accepted Secret s → (date : ℤ) (answer : ℕ) (part : List ℕ) → Tells (call s date) s answer part → answer ≡ 14

-- The call for the place of a fault. Request 4: "only a call of the uploader's own, on one text, gives the place."
pub record PlacePromises : Type 0 where
  -- 1. ".. a call ends with one answer": the number, and the place of a fault of the text that has it, with none of 20 to 26 before it.
  pub answered : (s : List ℕ) (answer place : ℕ) → Locates (locate_text s) answer place → PlaceAnswered s answer place
  -- The other calls on the text answer that number, whatever else they are given.
  pub table : (s : List ℕ) (answer place : ℕ) → Locates (locate_text s) answer place → (answer ≡ 0 → ⊥)
      → (zones : ZoneTable) (from to : ℤ) (buffer : List ℕ) (answer' size : ℕ) (after : List ℕ)
      → Gives (expand_text zones s from to buffer) answer' size after → answer' ≡ answer
  pub title : (s : List ℕ) (answer place : ℕ) → Locates (locate_text s) answer place → (answer ≡ 0 → ⊥)
      → (date : ℤ) (answer' start size : ℕ) → Shows (title_of s date) answer' start size → answer' ≡ answer
  pub description : (s : List ℕ) (answer place : ℕ) → Locates (locate_text s) answer place → (answer ≡ 0 → ⊥)
      → (date : ℤ) (answer' start size : ℕ) → Shows (description_of s date) answer' start size → answer' ≡ answer
  -- 0 is given exactly for an accepted event.
  pub accepted : (s : List ℕ) (answer place : ℕ) → Locates (locate_text s) answer place → (answer ≡ 0) ↔ (text_fault s ≡ 0)
  -- 3. Request 4: "Demand 3 is unchanged". Of accepted events, private and secret ones too, the call gives nothing but 0.
  pub silent : (s : List ℕ) → text_fault s ≡ 0 → (answer place : ℕ) → Locates (locate_text s) answer place → (answer ≡ 0) × (place ≡ 0)

-- The call for the weeks of an upload log, given a sheet: that of an event is the first `size` bytes of the buffer, `take size after`.
pub record WeeksPromises : Type 0 where
  -- 1. ".. a call ends with one answer: the lowest number of the table whose condition holds." Request 1: "a refusal changes nothing".
  pub answered : (log : List ℤ) (sheet : List ℕ) (from to : ℤ) (before : List ℤ) (answer reported shut missing : ℕ) (after : List ℤ)
      → Replays (replay_of log sheet from to before) answer reported shut missing after
      → WeeksAnswered log sheet from to before answer reported shut missing after
  -- Request 1: each week, its place and the tallies, where the call is answered 0.
  pub sorted : (log : List ℤ) (sheet : List ℕ) (from to : ℤ) (before : List ℤ) (answer reported shut missing : ℕ) (after : List ℤ)
      → Replays (replay_of log sheet from to before) answer reported shut missing after → answer ≡ 0
      → WeeksSorted log (rows_of sheet) from to before reported shut missing after
  -- A week of a range is the one that floor division gives, before 1970 too.
  pub floor : (from t : ℤ) (i : ℕ) → is_monday from ≡ true → (in_week from i t ≡ true) ↔ (week_of t ≡ week_of from +ℤ pos i)
  -- "A span takes in its start and not its end": one that has seconds touches the weeks that have an instant of it.
  pub touching : (from : ℤ) (i : ℕ) (r : Row) → lt_z r.start r.end ≡ true → (touches from i r ≡ true) ↔ Shares from i r
  -- Every sheet that the library writes is accepted: 32 is not given for it.
  pub written : (zones : ZoneTable) (s : List ℕ) (from to : ℤ) (buffer : List ℕ) (answer size : ℕ) (after : List ℕ)
      → Gives (expand_text zones s from to buffer) answer size after → answer ≡ 0 → fault_of (take size after) ≡ 0
  -- 3. ".. the planner gets the same answer": the weeks, too, are the same for two accepted private events that agree, whatever log, range and places.
  pub private : (s t : List ℕ) → Accepted Private s → Accepted Private t → Agree (event_of s) (event_of t)
      → (zones : ZoneTable) (from to : ℤ) (buffer : List ℕ) (answer answer' size size' : ℕ) (after after' : List ℕ)
      → Gives (expand_text zones s from to buffer) answer size after → Gives (expand_text zones t from to buffer) answer' size' after'
      → SameReplays (take size after) (take size' after')
  -- 3. ".. Whatever else they hold": the same for two accepted secret events, and no week is shut by one.
  pub secret : (s t : List ℕ) → Accepted Secret s → Accepted Secret t
      → (zones : ZoneTable) (from to : ℤ) (buffer : List ℕ) (answer answer' size size' : ℕ) (after after' : List ℕ)
      → Gives (expand_text zones s from to buffer) answer size after → Gives (expand_text zones t from to buffer) answer' size' after'
      → SameReplays (take size after) (take size' after') × (answer ≡ 0 → ShutsNothing (take size after))

-- The calls that read a sheet back, given its bytes: those of an event are `take size after`, as above.
pub record ReadingPromises : Type 0 where
  -- 1. ".. a call ends with one answer: the lowest number of the table whose condition holds." Request 1: "Here and later a refusal changes nothing".
  -- Request 3: "We want a reader that starts from the trailer and hands out record by number."
  pub read : (sheet : List ℕ) (answer version count : ℕ) → Summarises (summary_of sheet) answer version count → ReadAnswered sheet answer version count
  pub fetched : (sheet : List ℕ) (number answer : ℕ) (id start end : ℤ) (marks : ℕ) → Fetches (fetch_of sheet number) answer id start end marks
      → RecordAnswered sheet number answer id start end marks
  pub run : (sheet : List ℕ) (first : ℕ) (l : Slices) (answer count : ℕ) (after : Slices)
      → FetchesRun (run_of sheet first l.ids l.starts l.ends l.marks) answer count after.ids after.starts after.ends after.marks
      → RunAnswered sheet first l answer count after
  -- 2. "UTC times, marks .. are those of the same document." Request 3: "Every sheet the library writes is read back to the records that made it".
  pub written : (zones : ZoneTable) (s : List ℕ) (from to : ℤ) (buffer : List ℕ) (answer size : ℕ) (after : List ℕ)
      → Gives (expand_text zones s from to buffer) answer size after → answer ≡ 0 → ReadBack zones (event_of s) from to (take size after)
  -- "any bytes that it accepts as a whole are what the writer of that version would give for those records"
  pub exact : (sheet : List ℕ) → AllBytes sheet → (answer version count : ℕ) → Summarises (summary_of sheet) answer version count → answer ≡ 0
      → sheet_of version (rows_of sheet) ≡ sheet
  -- Two accepted sheets with the same records are the same bytes. (There is one version.)
  pub same : (sheet sheet' : List ℕ) → AllBytes sheet → AllBytes sheet' → fault_of sheet ≡ 0 → fault_of sheet' ≡ 0 → rows_of sheet ≡ rows_of sheet'
      → sheet ≡ sheet'
  -- 3. ".. the planner gets the same answer": two accepted private events that agree are read back alike, whatever number and slices.
  pub private : (s t : List ℕ) → Accepted Private s → Accepted Private t → Agree (event_of s) (event_of t)
      → (zones : ZoneTable) (from to : ℤ) (buffer : List ℕ) (answer answer' size size' : ℕ) (after after' : List ℕ)
      → Gives (expand_text zones s from to buffer) answer size after → Gives (expand_text zones t from to buffer) answer' size' after'
      → SameReadings (take size after) (take size' after')
  -- 3. ".. Whatever else they hold": the same for two accepted secret events, "and a sheet answered 0 has no records".
  pub secret : (s t : List ℕ) → Accepted Secret s → Accepted Secret t
      → (zones : ZoneTable) (from to : ℤ) (buffer : List ℕ) (answer answer' size size' : ℕ) (after after' : List ℕ)
      → Gives (expand_text zones s from to buffer) answer size after → Gives (expand_text zones t from to buffer) answer' size' after'
      → SameReadings (take size after) (take size' after') × (answer ≡ 0 → NoRecords (take size after))

-- The search for an offset, which is no call: what request 5 says of how it is done.
pub record SearchPromises : Type 0 where
  -- Request 5: "it is proved that each step reads one mark and leaves at most half the run, so that 11 steps find the offset in any valid table."
  pub halving : (initial : ℤ) (instants offsets : List ℤ) (local : ℤ) → valid_table initial instants offsets ≡ true
      → (found : Found) → found ≡ search_by 11 (mark_at initial instants offsets) local 0 (length instants)
      → Halving initial instants offsets local found

-- All that is promised.
pub record Promises : Type 0 where
  -- 1. "one answer": two numbers that both are given are equal.
  pub one_answer : (l : List Numbered) (a b : ℕ) → Given l a → Given l b → a ≡ b
  -- 1. "the lowest number of the table whose condition holds": what is given comes before every other number that applies, 20 to 26 in 6's place. The
  -- conditions of each call stand in that order.
  pub lowest : (l : List Numbered) (a : ℕ) → InOrder 0 l → Given l a → (n : ℕ) → applies n l ≡ true → rank a ≤ rank n
  pub table_order : (zones : ZoneTable) (s : List ℕ) (from to : ℤ) (buffer : List ℕ) → InOrder 0 (table_conditions zones s from to buffer)
  pub words_order : (s : List ℕ) (date : ℤ) → InOrder 0 (words_conditions s date)
  pub place_order : (s : List ℕ) → InOrder 0 (text_conditions s)
  pub weeks_order : (log : List ℤ) (sheet : List ℕ) (from to : ℤ) (room : ℕ) → InOrder 0 (weeks_conditions log sheet from to room)
  pub read_order : (sheet : List ℕ) → InOrder 0 (sheet_conditions sheet)
  pub record_order : (sheet : List ℕ) (number : ℕ) → InOrder 0 (record_conditions sheet number)
  -- 01: "An event is accepted when none of 1 to 9 applies to its text."
  pub accepted : (s : List ℕ) → (text_fault s ≡ 0) ↔ ((n : ℕ) → applies n (text_conditions s) ≡ false)
  pub table : TablePromises
  pub title : TextPromises title_of (λ d. d.title)
  pub description : TextPromises description_of (λ d. d.description)
  pub place : PlacePromises
  pub weeks : WeeksPromises
  pub reading : ReadingPromises
  pub search : SearchPromises
