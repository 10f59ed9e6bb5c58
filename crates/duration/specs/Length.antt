-- `duration`, 01, "Reading the event": "ABNF of source document 004, so `P1W2D` is right and `P` is wrong; default zero; total at most 366
-- days, else 6; a legal fraction answers 8." Request 2: "The limit of 366 days stays, still counted with 86,400."
use Rattle.std.specs.Prelude.{if◌then◌else◌, ℕ, ◌+◌, ◌-◌, ◌*◌, Bool, not, List, eqb, ltb, leb, length, take, drop}
use Rattle.json_text.specs.Bytes.{past}
use Rattle.digits.specs.Fraction.{legal_fraction}
use Rattle.duration_grammar.specs.Grammar.{is_duration}
use Rattle.duration.specs.Amount.{amount_of}
use Rattle.duration.specs.declared.Span.{Span}
use Rattle.duration.specs.declared.Span.TheVariants.{Of, Fault}

abbrev pub no_point : ℕ → Bool
no_point b = not (eqb b 0x2E)

-- The place of the first ".", and the length of the string where there is none.
unfoldable pub point_at : List ℕ → ℕ
point_at s = past no_point s 0

-- 004: "A week is always the same as seven days." W is 0x57, D is 0x44.
unfoldable pub days_of : List ℕ → ℕ
days_of s = 7 * amount_of 0x57 s + amount_of 0x44 s

-- Hours (H, 0x48), minutes (M, 0x4D) and the whole seconds, whose number stands before the byte c: "S", 0x53, or the "." of a fraction, 0x2E.
unfoldable pub seconds_of : ℕ → List ℕ → ℕ
seconds_of c s = 3600 * amount_of 0x48 s + 60 * amount_of 0x4D s + amount_of c s

abbrev pub limit : ℕ
limit = 366 * 86400

-- Without a fraction.
unfoldable pub whole_of : List ℕ → Span
whole_of s =
    if ltb limit (86400 * days_of s + seconds_of 0x53 s) then Fault 22 else
    Of (days_of s) (seconds_of 0x53 s)

-- With a fraction, which lies between the "." and the last byte, "S". A legal fraction is more than nothing, so that with it 366 whole days
-- are over the limit, too.
unfoldable pub fraction_of : List ℕ → Span
fraction_of s =
    if legal_fraction (take (length s - 1 - (point_at s + 1)) (drop (point_at s + 1) s)) then
    (if leb limit (86400 * days_of s + seconds_of 0x2E s) then Fault 22 else Fault 8)
    else Fault 22

-- A duration: its days, and its seconds apart from them, since a day of the zone need not have 24 hours; or the fault.
unfoldable pub length_of : List ℕ → Span
length_of s =
    if is_duration s then
    (if ltb (point_at s) (length s) then fraction_of s else whole_of s)
    else Fault 22
