-- Laws of date-times: one turn of the comparison with a picture, and what a right LocalDateTime says of its date.
use Rattle.std.specs.Prelude.{if◌then◌else◌}
use Prim.Native.Nat.{ℕ, ◌+◌, ◌-◌, ◌≤◌, ◌<◌}
use mathlib.Core.Bool.{Bool, true, false}
use mathlib.Core.List.{List, [], ◌∷◌}
use mathlib.Core.Path.{◌≡◌, refl, sym}
use native.Mathlib.Numerals.{add-one}
use native.Mathlib.Omega.{arith}
use lib.ListN.{length, get_or, take, drop, drop_of_length-le, length-drop}
use lib.Seq.{drop-cons, take_all}
use Rattle.gregorian.specs.Days.{is_date}
use Rattle.date_time.specs.Picture.{meets, follows, picture}
use Rattle.date_time.specs.Parts.{date_at}
use Rattle.date_time.specs.Local.{is_local}

pub follows-turn : (i : ℕ) (p s : List ℕ) → i < length p → length p ≤ length s
    → follows (drop i p) (drop i s) ≡ (if meets (get_or p i 0) (get_or s i 0) then follows (drop (i + 1) p) (drop (i + 1) s) else false)
unfolding follows
follows-turn i p s h k = rw (drop-cons p i 0 h, drop-cons s i 0 (omega arith), add-one)

pub follows-end : (i : ℕ) (p s : List ℕ) → length p ≤ i → follows (drop i p) (drop i s) ≡ true
unfolding follows
follows-end i p s h = rw (drop_of_length-le p h)

both : (b : Bool) → (if b then false else false) ≡ false
both true = refl
both false = refl

-- A string that is shorter than the picture does not follow it.
pub follows-short : (p s : List ℕ) → length s < length p → follows p s ≡ false
unfolding follows
follows-short [] s h = absurd (omega arith)
follows-short (p ∷ ps) [] h = refl
follows-short (p ∷ ps) (b ∷ s) h = rw (follows-short ps s (omega arith)) (both (meets p b))

pub local-date : (last : ℕ) (s : List ℕ) → is_local last s ≡ true → is_date (date_at s) ≡ true
unfolding is_local
local-date last s e = by (follows picture s) (is_date (date_at s)) _ e
  where
    by : (a b c : Bool) → (if a then (if b then c else false) else false) ≡ true → b ≡ true
    by true true c e = refl
    by true false c e = let z : ◌≡◌ {A = ℕ} 0 1 = cc in absurd (omega arith)
    by false true c e = refl
    by false false c e = let z : ◌≡◌ {A = ℕ} 0 1 = cc in absurd (omega arith)

-- A part that goes to the end.
pub part-rest : (i : ℕ) (s : List ℕ) → drop i s ≡ take (length s - i) (drop i s)
part-rest i s = sym (take_all (length s - i) (drop i s) (omega (arith, length-drop i s)))
