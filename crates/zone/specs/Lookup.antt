-- The offset of a local time, and UTC (01, "Zone table and UTC").
use Rattle.std.specs.Prelude.{if◌then◌else◌, List, [], ◌∷◌, ℤ, ◌-ℤ◌}
use Rattle.std.specs.Int.Signed.{le_z}
use Rattle.zone.specs.Table.{Transition, transitions, mark}

-- "that after the last transition whose mark is at or before it, else the initial one": all transitions in order, each whose mark is at or
-- before the local time taking the place of what was found so far.
unfoldable pub last_after : ℤ → List Transition → ℤ → ℤ
last_after found [] local = found
last_after found (t ∷ ts) local = last_after (if le_z (mark t) local then t.after else found) ts local

-- "The offset for a local time"
unfoldable pub offset_at : ℤ → List ℤ → List ℤ → ℤ → ℤ
offset_at initial instants offsets local = last_after initial (transitions initial instants offsets) local

-- "UTC is local minus offset"
unfoldable pub utc_at : ℤ → List ℤ → List ℤ → ℤ → ℤ
utc_at initial instants offsets local = local -ℤ offset_at initial instants offsets local
