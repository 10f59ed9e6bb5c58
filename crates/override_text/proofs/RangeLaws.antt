-- What is known of overrides that have no fault: date-times of the years 1601 to 9998, lengths of at most 366 days. There are at most 256 of them
-- (`event` proofs/Limits `read-most`).
use Rattle.std.specs.Prelude.{if◌then◌else◌}
use Prim.Native.Nat.{ℕ, zero, suc, ◌*◌, ◌≤◌, ◌<◌}
use mathlib.Core.Bool.{Bool, true, false}
use mathlib.Core.List.{List, [], map}
use mathlib.Core.Option.{Option, none, some}
use mathlib.Core.Path.{◌≡◌, refl, ap, ◌∙◌}
use native.Mathlib.Omega.{arith}
use lib.ListN.{length, get_or, take, length-map}
use lib.Seq.{sets, take_all}
use Rattle.json_tree.specs.Tree.{Json, Fields, no_field, field, place_of}
use Rattle.event.specs.Types.{Length, Details, Override}
use Rattle.event.specs.Values.{is_null, object}
use Rattle.event.specs.Reading.{right, placed, inside, limited}
use Rattle.event.specs.Properties.{no_length, date_time, read_length}
use Rattle.event.specs.Overrides.{patched, patched_start, patch_in, override_of, overrides_in, read_overrides}
use Rattle.fault.specs.Fault.{faults_at}
use Rattle.fault.proofs.Laws.{append-none, all_none, fault-some, none-fault}
use Rattle.property.proofs.Ranges.{Within, Short, date-range, start-range, length-range}
use Rattle.override_text.specs.Inner.Lists.{Filled}

abbrev pub InYears : ℕ → Type 0
InYears x = Within (366 * 86400) (3067672 * 86400) x

pub record InRange (o : Override) : Type 0 where
  pub id : InYears o.id
  pub start : InYears o.details.start
  pub short : Short o.details.length

-- ---- one patch

start-in : (id : ℕ) → InYears id → (o : Option Json) → (patched_start id o).fault ≡ 0 → InYears (patched_start id o).value
unfolding patched_start
start-in id h none e = h
start-in id h (some v) e = start-range v e

length-in : (own : Length) → Short own → (o : Option Json) → Short (patched own no_length read_length o).value
unfolding patched
length-in own h none = h
length-in own h (some v) = go (is_null v)
  where
    go : (c : Bool) → Short (if c then right no_length else read_length v).value
    go true = omega arith
    go false = length-range v

module _ (own : Details) (h : Short own.length) where
  patch-range : (id : ℕ) → InYears id → (at : ℕ) (fields : Fields) → (patch_in own id at fields).faults ≡ [] → InRange (patch_in own id at fields).value
  unfolding patch_in placed
  patch-range id i at fields e =
      record { id = i; start = start-in id i _ (none-fault _ _ (all_none _ e).0); short = length-in own.length h _ }

  over-range : (id : ℕ) → InYears id → (at : ℕ) (o : Option Fields)
      → (inside (record { id = id; excluded = false; details = own }) at (patch_in own id at) o).faults ≡ []
      → InRange (inside (record { id = id; excluded = false; details = own }) at (patch_in own id at) o).value
  unfolding inside
  over-range id i at none e = absurd (fault-some 20 at refl e)
  over-range id i at (some fields) e = patch-range id i at fields e

  pub override-range : (at : ℕ) (name : List ℕ) (v : Json) → (override_of own at name v).faults ≡ [] → InRange (override_of own at name v).value
  unfolding override_of
  override-range at name v e =
      let parts = append-none (faults_at (date_time name).fault at) _ e in
      over-range (date_time name).value (date-range name (none-fault _ at parts.0)) (place_of v) (object v) parts.1

  -- ---- all of them

  pub overrides-range : (fields : Fields) → (overrides_in own fields).faults ≡ [] → (k : ℕ) → k < length (overrides_in own fields).value → (d : Override)
      → InRange (get_or (overrides_in own fields).value k d)
  unfolding overrides_in
  overrides-range no_field e k p d = absurd (omega arith)
  overrides-range (field at name v fields) e zero p d = override-range at name v (append-none (override_of own at name v).faults (overrides_in own fields).faults e).0
  overrides-range (field at name v fields) e (suc k) p d = overrides-range fields (append-none (override_of own at name v).faults (overrides_in own fields).faults e).1 k (omega arith) d

  pub read-range : (v : Json) → (read_overrides own v).faults ≡ [] → (k : ℕ) → k < length (read_overrides own v).value → (d : Override)
      → InRange (get_or (read_overrides own v).value k d)
  unfolding read_overrides limited inside
  read-range v = go (place_of v) (object v)
    where
      go : (at : ℕ) (o : Option Fields) → (inside [] at (λ (fields : Fields). limited 256 at (overrides_in own fields)) o).faults ≡ []
          → (k : ℕ) → k < length (inside [] at (λ (fields : Fields). limited 256 at (overrides_in own fields)) o).value → (d : Override)
          → InRange (get_or (inside [] at (λ (fields : Fields). limited 256 at (overrides_in own fields)) o).value k d)
      go at none e k p d = absurd (fault-some 20 at refl e)
      go at (some fields) e k p d = overrides-range fields (append-none (overrides_in own fields).faults _ e).0 k p d

-- ---- at most 256, so the lists in the slices are those of all overrides
stored : {A : Type 0} (was vs : List A) (n : ℕ) → length vs ≡ n → n ≤ 256 → sets was 0 (take 256 vs) ≡ sets was 0 vs
stored {A} was vs n e h = ap (λ (l : List A). sets was 0 l) (take_all 256 vs (omega (arith, e, h)))

module _ (overrides : List Override) (patches : List ℕ) (ids₀ ids₁ : List ℕ) (gone₀ gone₁ : List Bool) (places₀ places₁ : List ℕ) (r : ℕ)
    (w : Filled overrides patches ids₀ ids₁ gone₀ gone₁ places₀ places₁ r) (h : length overrides ≤ 256) where
  pub all-counted : r ≡ length overrides
  all-counted = w.count ∙ ap length (take_all 256 overrides h)

  pub all_ids : ids₁ ≡ sets ids₀ 0 (map (λ (o : Override). o.id) overrides)
  all_ids = w.ids ∙ stored ids₀ (map (λ (o : Override). o.id) overrides) (length overrides) (length-map overrides (λ (o : Override). o.id)) h

  pub all-gone : gone₁ ≡ sets gone₀ 0 (map (λ (o : Override). o.excluded) overrides)
  all-gone =
      w.gone ∙ stored gone₀ (map (λ (o : Override). o.excluded) overrides) (length overrides) (length-map overrides (λ (o : Override). o.excluded)) h

  pub all-places : length patches ≡ length overrides → places₁ ≡ sets places₀ 0 patches
  all-places e = w.places ∙ stored places₀ patches (length overrides) e h
