-- What 10 to 12 leave of the answer of a call: 13, by the table's length.
use Rattle.std.specs.Prelude.{if◌then◌else◌}
use Prim.Native.Nat.{ℕ}
use mathlib.Core.Bool.{Bool, true, false, not, ◌&&◌}
use mathlib.Core.List.{List}
use mathlib.Core.Option.{Option}
use mathlib.Core.Path.{◌≡◌, refl}
use native.Mathlib.Omega.{arith}
use lib.Dec.{ltb}
use lib.IntN.{ℤ}
use lib.ListN.{length}
use Rattle.zone.specs.Table.{valid_table}
use Rattle.keywords.specs.declared.Privacy.{Privacy}
use Rattle.call_definitions.specs.Window.{valid_window}
use Rattle.call_definitions.specs.Utc.{ZoneTable}
use Rattle.call_definitions.specs.Answer.{is_secret, other_zone, answer_for}
use Rattle.opening.specs.Inner.Refusal.{refusal_for}

module _ (zones : ZoneTable) (from to : ℤ) (privacy : Privacy) (zone : Option (List ℕ)) where
  chosen : (a b c : Bool) (n : ℕ) → ◌≡◌ {A = ℕ} (if a then 10 else if b then 11 else if c then 12 else 0) 0
      → (if a then 10 else if b then 11 else if c then 12 else n) ≡ n
  chosen true b c n e = absurd (omega (arith, e))
  chosen false true c n e = absurd (omega (arith, e))
  chosen false false true n e = absurd (omega (arith, e))
  chosen false false false n e = refl

  kept : (a b c : Bool) (n : ℕ) → (◌≡◌ {A = ℕ} (if a then 10 else if b then 11 else if c then 12 else 0) 0 → ⊥)
      → (if a then 10 else if b then 11 else if c then 12 else n) ≡ (if a then 10 else if b then 11 else if c then 12 else 0)
  kept true b c n e = refl
  kept false true c n e = refl
  kept false false true n e = refl
  kept false false false n e = absurd (e refl)

  -- no refusal: the answer is 13 or 0
  pub answer-left : refusal_for zones from to privacy zone ≡ 0 → (table buffer : List ℕ)
      → answer_for zones from to privacy zone table buffer ≡ (if ltb (length buffer) (length table) then 13 else 0)
  unfolding refusal_for answer_for
  answer-left e table buffer =
      chosen (not (valid_table zones.initial zones.instants zones.offsets)) (not (valid_window from to)) (not (is_secret privacy) && other_zone zone zones.name)
      (if ltb (length buffer) (length table) then 13 else 0) e

  -- a refusal is the answer
  pub answer-refused : (refusal_for zones from to privacy zone ≡ 0 → ⊥) → (table buffer : List ℕ)
      → answer_for zones from to privacy zone table buffer ≡ refusal_for zones from to privacy zone
  unfolding refusal_for answer_for
  answer-refused e table buffer =
      kept (not (valid_table zones.initial zones.instants zones.offsets)) (not (valid_window from to)) (not (is_secret privacy) && other_zone zone zones.name)
      (if ltb (length buffer) (length table) then 13 else 0) e

  -- where none applies, the zone table and the window are valid
  first-false : (a b c : Bool) → ◌≡◌ {A = ℕ} (if not a then 10 else if not b then 11 else if c then 12 else 0) 0 → (a ≡ true) × (b ≡ true)
  first-false true true c e = (refl, refl)
  first-false true false c e = absurd (omega (arith, e))
  first-false false b c e = absurd (omega (arith, e))

  pub call-valid : refusal_for zones from to privacy zone ≡ 0 → (valid_table zones.initial zones.instants zones.offsets ≡ true) × (valid_window from to ≡ true)
  unfolding refusal_for
  call-valid e =
      first-false (valid_table zones.initial zones.instants zones.offsets) (valid_window from to) (not (is_secret privacy) && other_zone zone zones.name) e
