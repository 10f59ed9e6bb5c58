-- The zone table and when it is valid (01, "Zone table and UTC"). A table is an initial offset, the entries' instants and the offsets from
-- then on, all in seconds.
use Rattle.std.specs.Prelude.{if◌then◌else◌, ℕ, ◌^◌, Bool, true, ◌&&◌, List, [], ◌∷◌, map, leb, eqb, ℤ, nat_abs, ◌+ℤ◌, length}
use Rattle.std.specs.Int.Signed.{le_z, lt_z}

-- An entry as a change of the clock: its instant, and the offsets before and after.
pub record Transition : Type 0 where
  pub instant : ℤ
  pub before : ℤ
  pub after : ℤ

-- "a run of entries, each an instant and an offset from then on": before the first entry the initial offset holds, before any other the
-- offset of the entry in front of it.
unfoldable pub transitions : ℤ → List ℤ → List ℤ → List Transition
transitions before [] offsets = []
transitions before (t ∷ instants) [] = []
transitions before (t ∷ instants) (after ∷ offsets) =
    record { instant = t; before = before; after = after } ∷ transitions after instants offsets

unfoldable pub larger : ℤ → ℤ → ℤ
larger a b = if le_z a b then b else a

-- "A transition's mark is its instant plus the larger of the offsets before and after"
unfoldable pub mark : Transition → ℤ
mark t = t.instant +ℤ larger t.before t.after

-- within ±k
unfoldable pub within : ℕ → ℤ → Bool
within k z = leb (nat_abs z) k

unfoldable pub all_within : ℕ → List ℤ → Bool
all_within k [] = true
all_within k (z ∷ zs) = within k z && all_within k zs

-- each number is below the next
unfoldable pub increasing : List ℤ → Bool
increasing [] = true
increasing (a ∷ []) = true
increasing (a ∷ b ∷ zs) = lt_z a b && increasing (b ∷ zs)

-- When 01 does not give 10 for the table.
unfoldable pub valid_table : ℤ → List ℤ → List ℤ → Bool
valid_table initial instants offsets =
    -- "At most 1,024 entries"
    leb (length instants) 1024
    -- instants and offsets of different lengths are no run of entries
    && eqb (length instants) (length offsets)
    -- "instants within ±2^40 and strictly increasing"
    && all_within (2 ^ 40) instants
    && increasing instants
    -- "offsets within ±86,399 seconds", the initial one too
    && within 86399 initial
    && all_within 86399 offsets
    -- "marks strictly increase"
    && increasing (map mark (transitions initial instants offsets))
