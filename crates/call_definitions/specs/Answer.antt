-- 01, "Answer numbers", of an accepted event: 10 to 14, the buffer after the call, and the texts.
use Rattle.std.specs.Prelude.{if◌then◌else◌, ℕ, Bool, true, false, not, ◌&&◌, List, eqb, ltb, ℤ, pos, neg_ℤ}
use Rattle.std.proofs.Math.Option.{Option, none, some}
use lib.ListN.{length}
use Rattle.std.proofs.lemmas.List.Edits.{sets}
use Rattle.std.specs.Int.Signed.{le_z}
use Rattle.json_walk.specs.Strings.{same}
use Rattle.zone.specs.Table.{valid_table}
use Rattle.keywords.specs.declared.Privacy.{Privacy}
use Rattle.keywords.specs.declared.Privacy.TheVariants.{Public, Private, Secret}
use Rattle.event.specs.Types.{Event}
use Rattle.call_definitions.specs.Window.{epoch, since1600, valid_window}
use Rattle.call_definitions.specs.Occurrence.{is_occurrence}
use Rattle.call_definitions.specs.Utc.{ZoneTable}
use Rattle.call_definitions.specs.Bytes.{table_of}

abbrev pub is_secret : Privacy → Bool
is_secret Public = false
is_secret Private = false
is_secret Secret = true

abbrev pub is_public : Privacy → Bool
is_public Public = true
is_public Private = false
is_public Secret = false

-- "its zone set, and the table's name differs in some byte"
unfoldable pub other_zone : Option (List ℕ) → List ℕ → Bool
other_zone none name = false
other_zone (some zone) name = not (same zone name)

-- 10 "zone table invalid", 11 "window invalid", 12 "event not secret, its zone set, and the table's name differs in some byte", 13 "the sheet is
-- longer than the lent buffer"; the lowest that applies.
unfoldable pub answer_for : ZoneTable → ℤ → ℤ → Privacy → Option (List ℕ) → List ℕ → List ℕ → ℕ
answer_for zones from to privacy zone table buffer =
    if not (valid_table zones.initial zones.instants zones.offsets) then 10 else
    if not (valid_window from to) then 11 else
    if not (is_secret privacy) && other_zone zone zones.name then 12 else
    if ltb (length buffer) (length table) then 13 else
    0

-- "After 0 the sheet fills the first bytes of the buffer and the others keep their values. After a refusal the buffer keeps all of them, the
-- length is 0".
pub record Outcome : Type 0 where
  pub answer : ℕ
  pub length : ℕ
  pub buffer : List ℕ

unfoldable pub outcome_by : ℕ → List ℕ → List ℕ → Outcome
outcome_by answer table buffer =
    if eqb answer 0 then record { answer = 0; length = lib.ListN.length table; buffer = sets buffer 0 table }
    else record { answer = answer; length = 0; buffer = buffer }

unfoldable pub expanded : ZoneTable → Event → ℤ → ℤ → List ℕ → Outcome
expanded zones e from to buffer =
    outcome_by (answer_for zones from to e.privacy e.zone (table_of zones e from to) buffer) (table_of zones e from to) buffer

-- 14: "words asked for a date that is no occurrence, or of a secret event". The date is any number; one before 1600 is no occurrence.
unfoldable pub text_answer_for : Privacy → Bool → ℕ
text_answer_for privacy occurs = if not (is_secret privacy) && occurs then 0 else 14

unfoldable pub text_answer : Event → Option ℕ → ℕ
text_answer e none = 14
text_answer e (some x) = text_answer_for e.privacy (is_occurrence e x)

-- "The date is a local second count, any 64-bit signed number."
unfoldable pub date_time_of : ℤ → Option ℕ
date_time_of t = if le_z (neg_ℤ (pos epoch)) t then some (since1600 t) else none
