-- What is known of an accepted event: its lists have no fault, its start lies in the years 1601 to 9998, and it lasts at most 366 days.
use Prim.Native.Nat.{ℕ, ◌*◌}
use mathlib.Core.Bool.{false}
use mathlib.Core.List.{List, []}
use mathlib.Core.Option.{Option, none, some}
use mathlib.Core.Path.{◌≡◌, sym}
use native.Mathlib.Omega.{arith}
use Rattle.signed.proofs.Parts.{false-true}
use Rattle.fault.proofs.Laws.{all_none, none-fault}
use Rattle.json_tree.specs.Tree.{Json, Fields, place_of, text_tree}
use Rattle.property.proofs.Ranges.{Within, Short, start-range, length-range}
use Rattle.event.specs.Event.{details_in, event_in, faults_in, faults_of, is_no_event, event_fault}
use Rattle.event.specs.Overrides.{read_overrides}
use Rattle.event.specs.Properties.{no_length, read_start, read_length}
use Rattle.event.specs.Reading.{optional, required, placed, present}
use Rattle.event.specs.Rules.{read_rules}
use Rattle.event.specs.Values.{object}
use Rattle.event.proofs.Numbers.{accepted-is-event, accepted-faultless}
use Rattle.event_text.specs.Inner.Front.{Front, front_in, front_from, front_of}

pub record Accepted (f : Front) : Type 0 where
  pub start : Within (366 * 86400) (3067672 * 86400) f.details.start
  pub short : Short f.details.length
  pub rules : (present [] read_rules f.rules).faults ≡ []
  pub excluded : (present [] read_rules f.excluded_rules).faults ≡ []
  pub overrides : (present [] (read_overrides f.details) f.overrides).faults ≡ []

start-within : (v : Option Json) → (required 0 read_start v).fault ≡ 0 → Within (366 * 86400) (3067672 * 86400) (required 0 read_start v).value
unfolding required
start-within none e = absurd (omega (arith, e))
start-within (some v) e = start-range v e

length-short : (v : Option Json) → Short (optional no_length read_length v).value
unfolding optional
length-short none = omega arith
length-short (some v) = length-range v

module _ (at : ℕ) (fields : Fields) where
  details-start : (details_in at fields).faults ≡ [] → Within (366 * 86400) (3067672 * 86400) (details_in at fields).value.start
  unfolding details_in placed
  details-start e = start-within _ (none-fault _ _ (all_none _ e).0)

  details-short : Short (details_in at fields).value.length
  unfolding details_in placed
  details-short = length-short _

  front-accepted : (event_in at fields).faults ≡ [] → Accepted (front_in at fields)
  unfolding event_in front_in
  front-accepted e =
      let own = (all_none _ e).1.1.1.1 in
      let lists = own.1.1 in
      record { start = details-start own.0; short = details-short; rules = lists.0; excluded = lists.1.0; overrides = lists.1.1.0 }

pub accepted : (s : List ℕ) → event_fault s ≡ 0 → Accepted (front_of s)
unfolding front_of faults_of faults_in is_no_event
accepted s e = go (object (text_tree s)) (accepted-is-event s e) (accepted-faultless s e)
  where
    go : (o : Option Fields) → is_no_event o ≡ false → faults_in (place_of (text_tree s)) o ≡ [] → Accepted (front_from s o)
    go none p z = false-true (sym p)
    go (some fields) p z = front-accepted (place_of (text_tree s)) fields z
