-- A signed place among n: 1 is the first, -1 the last.
use Rattle.std.specs.Prelude.{if◌then◌else◌, ℕ, ◌-◌, leb, ℤ, pos, negsuc}

-- 01, "Rules of recurrence", 2: "A negative day of the month counts back from its end"; likewise `nthOfPeriod` and `bySetPosition`.
-- The place as it counts from the first, which is 1; 0 where there is none. (`negsuc k` is -(k + 1): k places stand after it.)
unfoldable pub place_of : ℤ → ℕ → ℕ
place_of (pos k) n = if leb k n then k else 0
place_of (negsuc k) n = n - k
