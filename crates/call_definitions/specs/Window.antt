-- 01, "Zone table and UTC": the window, and the two ways to count local seconds.
use Rattle.std.specs.Prelude.{ℕ, Bool, ◌&&◌, ℤ, pos, neg_ℤ, ◌+ℤ◌}
use Rattle.std.proofs.Math.IntN.{sub_ℕ}
use Rattle.std.specs.Int.Signed.{le_z}
use Rattle.signed.specs.Parts.{pos_part}

-- The seconds from 1600-01-01T00:00:00 to 1970-01-01T00:00:00.
abbrev pub epoch : ℕ
epoch = 11676096000

-- Local seconds from 1970 as seconds from 1600, and back. No date-time of the profile lies before 1600.
unfoldable pub since1600 : ℤ → ℕ
since1600 t = pos_part (t +ℤ pos epoch)

unfoldable pub since1970 : ℕ → ℤ
since1970 x = sub_ℕ x epoch

-- "two local second counts from 1970-01-01T00:00:00, the first included, the second not; both from -11,644,473,600 to 253,370,764,800,
-- first not above second"
unfoldable pub valid_window : ℤ → ℤ → Bool
valid_window from to = le_z (neg_ℤ (pos 11644473600)) from && (le_z from to && le_z to (pos 253370764800))
