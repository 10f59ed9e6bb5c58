-- The ranges of what is read without a fault: date-times of the years 1601 to 9998 (`until`: to 9999), lengths of at most 366 days.
use Rattle.std.specs.Prelude.{if◌then◌else◌}
use Prim.Native.Nat.{ℕ, suc, ◌+◌, ◌-◌, ◌*◌, ◌≤◌, ◌<◌}
use mathlib.Core.Bool.{Bool, true, false}
use mathlib.Core.List.{List}
use mathlib.Core.Option.{Option, none, some}
use mathlib.Core.Path.{◌≡◌, refl, ◌∙◌}
use native.Mathlib.Omega.{arith}
use lib.Dec.{eqb, ltb, leb}
use lib.ListN.{length, take, drop}
use borrow.Author.Tests.{ltb-false, leb-true}
use Rattle.gregorian.proofs.DayLaws.{Parts, parts-of, day-above, day-below}
use Rattle.gregorian.proofs.YearLaws.{first-suc, first-mono, first-cycle, first-zero}
use Rattle.gregorian.specs.Days.{is_date, day_of}
use Rattle.gregorian.specs.Year.{is_leap, year_length, leap_years, first_of_year}
use Rattle.json_text.specs.Bytes.{byte}
use Rattle.json_tree.specs.Tree.{Json}
use Rattle.digits.specs.Fraction.{legal_fraction}
use Rattle.date_time.specs.Local.{is_local, fraction_fault, seconds_at, local_of}
use Rattle.date_time.specs.Parts.{date_at, hour_at, minute_at, second_at, is_time, second_of_day}
use Rattle.date_time.specs.Picture.{follows, picture}
use Rattle.date_time.specs.declared.DateTime.TheVariants as local
use Rattle.duration.specs.Length.{days_of, seconds_of, point_at, limit, whole_of, fraction_of, length_of}
use Rattle.duration.specs.declared.Span.TheVariants as span
use Rattle.duration_grammar.specs.Grammar.{is_duration}
use Rattle.event.specs.Properties.{from_local, from_span, no_length, date_time, read_start, read_until, read_length}
use Rattle.event.specs.Reading.{Reading, wrong, or_wrong}
use Rattle.event.specs.Types.{Text, Length}
use Rattle.event.specs.Values.{string, of_word}
use Rattle.json_walk.specs.Strings.{slashed}

pub record Within (low high x : ℕ) : Type 0 where
  pub from : low ≤ x
  pub to : x < high

false-true : {P : Type 0} → false ≡ true → P
false-true e = let z : ◌≡◌ {A = ℕ} 0 1 = cc in absurd (omega arith)

both : (c a : Bool) → (if c then a else false) ≡ true → (c ≡ true) × (a ≡ true)
both true a e = (refl, e)
both false a e = false-true e

neither : (c a : Bool) → (if c then false else a) ≡ true → (c ≡ false) × (a ≡ true)
neither true a e = false-true e
neither false a e = (refl, e)

time-below : (s : List ℕ) → is_time s ≡ true → second_of_day s < 86400
unfolding is_time second_of_day
time-below s e =
    let (h, p) = neither (ltb 23 (hour_at s)) _ e in
    let (m, q) = neither (ltb 59 (minute_at s)) _ p in
    let hour : hour_at s ≤ 23 = ltb-false 23 (hour_at s) h in
    let minute : minute_at s ≤ 59 = ltb-false 59 (minute_at s) m in
    let second : second_at s ≤ 59 = leb-true (second_at s) 59 q in
    omega arith

-- January 1st of 1601, and of the years after the last ones.
first-1601 : first_of_year 1 ≡ 366
unfolding first_of_year leap_years is_leap
first-1601 = refl

first-10000 : first_of_year 8400 ≡ 3068037
first-10000 = first-cycle 21 0 ∙ omega (arith, first-zero)

first-9999 : first_of_year 8399 ≡ 3067672
unfolding year_length is_leap
first-9999 =
    let last : year_length 9999 ≡ 365 = refl in
    let next : first_of_year 8400 ≡ first_of_year 8399 + year_length 9999 = first-suc 8399 in
    omega (arith, first-10000)

local-seconds : (end : ℕ) (s : List ℕ) → is_local end s ≡ true → Within 31622400 (86400 * first_of_year (suc (end - 1600))) (seconds_at s)
unfolding is_local seconds_at
local-seconds end s e =
    let (f, p) = both (follows picture s) _ e in
    let (d, q) = both (is_date (date_at s)) _ p in
    let (t, r) = both (is_time s) _ q in
    let (a, b) = both (leb 1601 (date_at s).year) _ r in
    let parts : Parts (date_at s) = parts-of (date_at s) d in
    let low : 1601 ≤ (date_at s).year = leb-true _ _ a in
    let high : (date_at s).year ≤ end = leb-true _ _ b in
    let time : second_of_day s < 86400 = time-below s t in
    let least : first_of_year 1 ≤ first_of_year ((date_at s).year - 1600) = first-mono 1 ((date_at s).year - 1600) (omega arith) in
    let most : first_of_year (suc ((date_at s).year - 1600)) ≤ first_of_year (suc (end - 1600)) = first-mono (suc ((date_at s).year - 1600)) (suc (end - 1600)) (omega arith) in
    let above = day-above (date_at s) parts in
    let below : day_of (date_at s) < first_of_year (suc ((date_at s).year - 1600)) = day-below (date_at s) parts in
    let year : first_of_year 1 ≡ 366 = first-1601 in
    record { from = omega arith; to = omega arith }

-- No fault is 0, so that what has the fault 0 was read.
pub some-zero : {P : Type 0} (n : ℕ) → suc n ≡ 0 → P
some-zero n e = absurd (omega arith)

fraction-fault : {P : Type 0} (s : List ℕ) → fraction_fault s ≡ 0 → P
unfolding fraction_fault
fraction-fault s e = go (eqb (byte s 19) 0x2E) (legal_fraction (drop 20 s)) e
  where
    go : {P : Type 0} (c d : Bool) → ◌≡◌ {A = ℕ} (if c then (if d then 8 else 21) else 21) 0 → P
    go true true e = absurd (omega arith)
    go true false e = absurd (omega arith)
    go false d e = absurd (omega arith)

local-range : (end : ℕ) (s : List ℕ) → (from_local (local_of end s)).fault ≡ 0
    → Within 31622400 (86400 * first_of_year (suc (end - 1600))) (from_local (local_of end s)).value
unfolding local_of
local-range end s = go (is_local end s) (eqb (length s) 19) refl
  where
    go : (c d : Bool) → is_local end s ≡ c → (from_local (if c then (if d then local.At (seconds_at s) else local.Fault (fraction_fault s)) else local.Fault 21)).fault ≡ 0
        → Within 31622400 (86400 * first_of_year (suc (end - 1600))) (from_local (if c then (if d then local.At (seconds_at s) else local.Fault (fraction_fault s)) else local.Fault 21)).value
    go true true p e = local-seconds end s p
    go true false p e = fraction-fault s e
    go false d p e = absurd (omega arith)

-- What was read of a word without a fault.
word-range : {A : Type 0} (P : A → Type 0) (a : A) (f : List ℕ → Reading A) → ((raw : List ℕ) → (f raw).fault ≡ 0 → P (f raw).value) → (v : Json)
    → (of_word a f v).fault ≡ 0 → P (of_word a f v).value
unfolding of_word or_wrong
word-range P a f h v = go (string v)
  where
    pick : (c : Bool) (raw : List ℕ) → (if c then wrong a 26 else f raw).fault ≡ 0 → P (if c then wrong a 26 else f raw).value
    pick true raw e = absurd (omega arith)
    pick false raw e = h raw e

    go : (t : Option Text) → (or_wrong a 20 (λ (t : Text). if slashed t.raw then wrong a 26 else f t.raw) t).fault ≡ 0
        → P (or_wrong a 20 (λ (t : Text). if slashed t.raw then wrong a 26 else f t.raw) t).value
    go none e = absurd (omega arith)
    go (some t) e = pick (slashed t.raw) t.raw e

-- Days 366 to 3,067,671, and for `until` to 3,068,036.
pub date-range : (raw : List ℕ) → (date_time raw).fault ≡ 0 → Within (366 * 86400) (3067672 * 86400) (date_time raw).value
unfolding date_time
date-range raw e =
    let w : Within 31622400 (86400 * first_of_year 8399) (date_time raw).value = local-range 9998 raw e in
    record { from = omega arith; to = omega (arith, first-9999) }

pub start-range : (v : Json) → (read_start v).fault ≡ 0 → Within (366 * 86400) (3067672 * 86400) (read_start v).value
unfolding read_start
start-range v = word-range (λ x. Within (366 * 86400) (3067672 * 86400) x) 0 date_time date-range v

pub until-range : (v : Json) → (read_until v).fault ≡ 0 → Within (366 * 86400) (3068037 * 86400) (read_until v).value
unfolding read_until
until-range v =
    word-range (λ x. Within (366 * 86400) (3068037 * 86400) x) 0 (λ raw. from_local (local_of 9999 raw))
    (λ raw e. let w : Within 31622400 (86400 * first_of_year 8400) (from_local (local_of 9999 raw)).value = local-range 9999 raw e in record { from = omega arith; to = omega (arith, first-10000) }) v

-- A length is at most 366 days of 86,400 seconds; where there is a fault it is 0.
abbrev pub Short : Length → Type 0
Short n = 86400 * n.days + n.seconds ≤ 366 * 86400

whole-range : (s : List ℕ) → Short (from_span (whole_of s)).value
unfolding whole_of
whole-range s = go (ltb limit (86400 * days_of s + seconds_of 0x53 s)) refl
  where
    go : (c : Bool) → ltb limit (86400 * days_of s + seconds_of 0x53 s) ≡ c → Short (from_span (if c then span.Fault 22 else span.Of (days_of s) (seconds_of 0x53 s))).value
    go true e = omega arith
    go false e = let h : 86400 * days_of s + seconds_of 0x53 s ≤ limit = ltb-false _ _ e in omega arith

fraction-range : (s : List ℕ) → Short (from_span (fraction_of s)).value
unfolding fraction_of
fraction-range s =
    go (legal_fraction (take (length s - 1 - (point_at s + 1)) (drop (point_at s + 1) s))) (leb limit (86400 * days_of s + seconds_of 0x2E s))
  where
    go : (c d : Bool) → Short (from_span (if c then (if d then span.Fault 22 else span.Fault 8) else span.Fault 22)).value
    go true true = omega arith
    go true false = omega arith
    go false d = omega arith

span-range : (s : List ℕ) → Short (from_span (length_of s)).value
unfolding length_of
span-range s = go (is_duration s) (ltb (point_at s) (length s))
  where
    go : (c d : Bool) → Short (from_span (if c then (if d then fraction_of s else whole_of s) else span.Fault 22)).value
    go true true = fraction-range s
    go true false = whole-range s
    go false d = omega arith

pub length-range : (v : Json) → Short (read_length v).value
unfolding read_length of_word or_wrong
length-range v = go (string v)
  where
    pick : (c : Bool) (raw : List ℕ) → Short (if c then wrong no_length 26 else from_span (length_of raw)).value
    pick true raw = omega arith
    pick false raw = span-range raw

    go : (t : Option Text) → Short (or_wrong no_length 20 (λ (t : Text). if slashed t.raw then wrong no_length 26 else from_span (length_of t.raw)) t).value
    go none = omega arith
    go (some t) = pick (slashed t.raw) t.raw
