-- The overrides of an event over their ids, marks and places: the details of an occurrence, and their range.
use Rattle.std.specs.Prelude.{if◌then◌else◌, Some, None}
use Prim.Native.Nat.{ℕ, suc, ◌<◌, ◌≤◌, ◌^◌}
use mathlib.Core.Bool.{Bool, true, false}
use mathlib.Core.List.{List, [], ◌∷◌, map}
use mathlib.Core.Option.{some}
use mathlib.Core.Path.{◌≡◌, refl, sym, ap}
use native.Mathlib.Omega.{arith}
use lib.Dec.{eqb}
use lib.ListN.{length, get_or, take}
use lib.Seq.{sets}
use Rattle.property.specs.Inner.From.{value_in}
use Rattle.property.specs.Inner.Place.{Place}
use Rattle.property.proofs.Ranges.{Short}
use Rattle.event.specs.Overrides.{read_overrides}
use Rattle.event.specs.Reading.{present}
use Rattle.event.specs.Types.{Details, Override}
use Rattle.override_text.specs.Inner.Patched.{patch_at}
use Rattle.override_text.proofs.ListLaws.{places-many, override-at}
use Rattle.override_text.proofs.RangeLaws.{InRange, read-range}
use Rattle.event.proofs.Limits.{read-most}
use Rattle.rule_text.proofs.CollectLaws.{take-sets}
use Rattle.event_text.specs.Inner.Front.{inner}
use Rattle.call_definitions.specs.Occurrence.{override_at, with_start, patched_by}
use Rattle.recurrence.specs.Event as recurrence
use Rattle.dates.specs.Inner.Stands.{overrides_of}
use Rattle.record.specs.Inner.Utc.{times_of}
use Rattle.record.specs.Inner.Occurrences.{Small}
use Rattle.writer.specs.Inner.Details.{patch_details, details_by}
use Rattle.loading.specs.Inner.Patches.{patches_in}

-- ---- lists that stand at the front of lent slices

pub front-stored : {A : Type 0} (was vs : List A) (n : ℕ) → length vs ≡ n → n ≤ length was → take n (sets was 0 vs) ≡ vs
front-stored was vs n e h = rw (sym e) (take-sets was vs (omega (arith, e)))

-- ---- the dates of overrides

pub dates-same : (os : List Override)
    → map (λ (o : Override). record { id = o.id; excluded = o.excluded }) os
    ≡ overrides_of (map (λ (o : Override). o.id) os) (map (λ (o : Override). o.excluded) os)
unfolding overrides_of
dates-same [] = refl
dates-same (o ∷ os) = ap (λ (l : List recurrence.Override). record { id = o.id; excluded = o.excluded } ∷ l) (dates-same os)

-- ---- the details of an occurrence

-- Each override is the patch at its place, of its id.
abbrev pub Patched : List ℕ → Details → List Override → List ℕ → Type 0
Patched s own os ps =
    (k : ℕ) → k < length ps → (d : Override) → get_or os k d ≡ (patch_at 13 own (get_or (map (λ (o : Override). o.id) os) k 0) s (get_or ps k 0)).value

pub details-same : (s : List ℕ) (own : Details) (os : List Override) (ps : List ℕ) → length ps ≡ length os → Patched s own os ps → (x : ℕ)
    → details_by s own (map (λ (o : Override). o.id) os) ps x ≡ patched_by own x (override_at os x)
unfolding details_by override_at patched_by
details-same s own [] ps even each x = refl
details-same s own (o ∷ os) [] even each x = absurd (omega arith)
details-same s own (o ∷ os) (p ∷ ps) even each x =
    go (details-same s own os ps (omega arith) (λ k h d. each (suc k) (omega arith) d) x) (eqb o.id x)
  where
    go : details_by s own (map (λ (q : Override). q.id) os) ps x ≡ patched_by own x (override_at os x) → (c : Bool)
        → (if c then patch_details own s p o.id else details_by s own (map (λ (q : Override). q.id) os) ps x)
        ≡ patched_by own x (if c then some o else override_at os x)
    go rest true = ap (λ (q : Override). q.details) (sym (each 0 (omega arith) o))
    go rest false = rest

-- ---- their range

small_times : (floating : Bool) (d : Details) (x : ℕ) → x < 2 ^ 60 → d.start < 2 ^ 60 → Short d.length → Small x (times_of floating d)
unfolding times_of
small_times floating d x h start short =
    record { id_small = h; brief = record { start_small = start; length_small = omega (arith, short) } }

abbrev pub Ranged : List Override → Type 0
Ranged os = (k : ℕ) → k < length os → (d : Override) → InRange (get_or os k d)

pub small-each : (floating : Bool) (own : Details) → Short own.length → (os : List Override) → Ranged os → (x : ℕ) → x < 2 ^ 60
    → Small x (times_of floating (patched_by own x (override_at os x)))
unfolding override_at patched_by with_start
small-each floating own short [] range x h = small_times floating (with_start own x) x h h short
small-each floating own short (o ∷ os) range x h =
    go (small-each floating own short os (λ k p d. range (suc k) (omega arith) d) x h) (eqb o.id x)
  where
    go : Small x (times_of floating (patched_by own x (override_at os x))) → (c : Bool)
        → Small x (times_of floating (patched_by own x (if c then some o else override_at os x)))
    go rest true = let r = range 0 (omega arith) o in small_times floating o.details x h (omega (arith, r.start.to)) r.short
    go rest false = rest

-- ---- the overrides at a place, which may be none

module _ (s : List ℕ) (own : Details) where
  pub patches-many : (p : Place) → length (patches_in s p) ≡ length (present [] (read_overrides own) (value_in inner s p)).value
  unfolding present
  patches-many None = refl
  patches-many (Some at) = places-many s at 13 own

  pub patches-each : (p : Place) → Patched s own (present [] (read_overrides own) (value_in inner s p)).value (patches_in s p)
  unfolding present
  patches-each None k h d = absurd (omega arith)
  patches-each (Some at) k h d = override-at s at 13 own k h d

  module _ (short : Short own.length) where
    pub patches-range : (p : Place) → (present [] (read_overrides own) (value_in inner s p)).faults ≡ []
        → Ranged (present [] (read_overrides own) (value_in inner s p)).value
    unfolding present
    patches-range None e k h d = absurd (omega arith)
    patches-range (Some at) e k h d = read-range own short _ e k h d

  pub patches-most : (p : Place) → (present [] (read_overrides own) (value_in inner s p)).faults ≡ []
      → length (present [] (read_overrides own) (value_in inner s p)).value ≤ 256
  unfolding present
  patches-most None e = omega arith
  patches-most (Some at) e = read-most own _ e
