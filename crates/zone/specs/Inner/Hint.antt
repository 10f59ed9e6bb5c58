-- The look at the hint, before the search: is the local time still where the last one was found? `marks` gives the mark at a place.
use Rattle.std.specs.Prelude.{if◌then◌else◌, ℕ, ◌-◌, Bool, true, false, ltb, eqb, ℤ}
use Rattle.std.specs.Int.Signed.{le_z, lt_z}

-- The mark before the place i, if there is one, is at or before the local time.
unfoldable pub begun_at : (ℕ → ℤ) → ℤ → ℕ → Bool
begun_at marks local i = if eqb i 0 then true else le_z (marks (i - 1)) local

-- The mark at the place i of n, if there is one, is beyond it.
unfoldable pub ahead_at : (ℕ → ℤ) → ℕ → ℤ → ℕ → Bool
ahead_at marks n local i = if eqb i n then true else lt_z local (marks i)

-- Any number may stand in the hint.
unfoldable pub still_at : (ℕ → ℤ) → ℕ → ℤ → ℕ → Bool
still_at marks n local i = if ltb n i then false else if begun_at marks local i then ahead_at marks n local i else false
