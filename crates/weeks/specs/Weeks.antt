-- 02, request 1: "Weeks that were shut and weeks that went missing." Instants are signed seconds from 1970-01-01T00:00:00 UTC. Weeks are counted
-- from the range's start, which is `from`; week 0 is the first.
use Rattle.std.specs.Prelude.{if◌then◌else◌, ℕ, suc, ◌+◌, ◌*◌, ◌-◌, ◌/◌, ◌%◌, Bool, not, ◌&&◌, List, [], ◌∷◌, eqb, ℤ, pos, negsuc, ◌+ℤ◌, ◌-ℤ◌}
use Rattle.std.specs.Int.Signed.{lt_z, le_z}
use Rattle.signed.specs.Parts.{pos_part}
use Rattle.rule.specs.Lists.{any}
use Rattle.sheet.specs.Records.{Row}

-- ---- "over a range of whole weeks from Monday 00:00 UTC"

-- The remainder of an instant by a week's 604,800 seconds. It is that of floor division, so before 1970 too: `negsuc n` is -(n + 1).
unfoldable pub modulo : ℤ → ℕ
modulo (pos n) = n % 604800
modulo (negsuc n) = 604799 - n % 604800

-- 1970-01-05, a Monday, begins at 345,600.
abbrev pub is_monday : ℤ → Bool
is_monday t = eqb (modulo t) 345600

-- "the range's seconds divided by 604,800"
unfoldable pub weeks_in : ℤ → ℤ → ℕ
weeks_in from to = pos_part (to -ℤ from) / 604800

-- Week i begins here, and ends where the next one begins.
unfoldable pub week_start : ℤ → ℕ → ℤ
week_start from i = from +ℤ pos (604800 * i)

unfoldable pub in_week : ℤ → ℕ → ℤ → Bool
in_week from i t = le_z (week_start from i) t && lt_z t (week_start from (suc i))

-- ---- each week is reported, shut or missing

-- "A span takes in its start and not its end; one with its end at or before its start touches the week of its start."
unfoldable pub touches : ℤ → ℕ → Row → Bool
touches from i r =
    if lt_z r.start r.end then lt_z r.start (week_start from (suc i)) && lt_z (week_start from i) r.end
    else in_week from i r.start

-- "reported (at least one upload in it)"
unfoldable pub is_reported : List ℤ → ℤ → ℕ → Bool
is_reported log from i = any (in_week from i) log

-- "shut (none, and some record's span from UTC start to UTC end touches it)"
unfoldable pub is_shut : List ℤ → List Row → ℤ → ℕ → Bool
is_shut log rows from i = not (is_reported log from i) && any (touches from i) rows

-- "or missing (neither)"
unfoldable pub is_missing : List ℤ → List Row → ℤ → ℕ → Bool
is_missing log rows from i = not (is_reported log from i) && not (is_shut log rows from i)

-- ---- "Each week's place, a signed number, in order, gets its uploads, or -1 for shut, -2 for missing."

unfoldable pub count : {A : Type 0} → (A → Bool) → List A → ℕ
count p [] = 0
count p (x ∷ l) = (if p x then 1 else 0) + count p l

unfoldable pub uploads_in : List ℤ → ℤ → ℕ → ℕ
uploads_in log from i = count (in_week from i) log

unfoldable pub place_of : List ℤ → List Row → ℤ → ℕ → ℤ
place_of log rows from i =
    if is_reported log from i then pos (uploads_in log from i)
    else if is_shut log rows from i then negsuc 0
    else negsuc 1
