-- The next date-time of a run of days that is filled, and the date-times of a stretch of time, as a list.
use Rattle.std.specs.Prelude.{if◌then◌else◌, ℕ, zero, suc, ◌+◌, ◌-◌, ◌*◌, ◌/◌, ◌%◌, ◌≤◌, Bool, true, false, ◌||◌, List, [], ◌∷◌, ◌≡◌, eqb, leb, ltb, length, get_or}
use Rattle.rule.specs.Gives.{end_day}
use Rattle.dates.specs.Inner.Overrides.{is_kept}

-- The first of n days from d on that passes; the day after them where none does.
unfoldable pub first_from : (ℕ → Bool) → ℕ → ℕ → ℕ
first_from p zero d = d
first_from p (suc n) d =
    let later = first_from p n (suc d) in
    if p d then d else later

-- None of n days from d on passes.
unfoldable pub none_in : (ℕ → Bool) → ℕ → ℕ → Bool
none_in p d zero = true
none_in p d (suc n) =
    let later = none_in p (suc d) n in
    if p d then false else later

-- The first second from a on, and before `to`, that passes; `to` where none does.
unfoldable pub next_of : (ℕ → Bool) → ℕ → ℕ → ℕ
next_of p a to = first_from p (to - a) a

-- ---- in the hits of a run

abbrev pub at_hit : List Bool → ℕ → Bool
at_hit hits i = get_or hits i false

-- From i on the first hit is the one from `from` on: none was passed.
pub record TrueAt (hits : List Bool) (from i : ℕ) : Type 0 where
  pub low : from ≤ i
  pub within : i ≤ length hits
  pub same : first_from (at_hit hits) (length hits - i) i ≡ first_from (at_hit hits) (length hits - from) from

-- x has the start's time of day and its day's hit is set.
unfoldable pub is_hit : List Bool → ℕ → ℕ → ℕ → Bool
is_hit hits first start x = if eqb (x % 86400) (start % 86400) then get_or hits (x / 86400 - first) false else false

-- The first day that has the start's time of day not before a second.
unfoldable pub day_from : ℕ → ℕ → ℕ
day_from start at = if leb (at % 86400) (start % 86400) then at / 86400 else at / 86400 + 1

-- ---- among the overrides

-- The nearer of two: the id of an override that is not excluded, from `at` on and before `best`.
unfoldable pub nearer : ℕ → ℕ → ℕ → Bool → ℕ
nearer at best i gone = if ltb i at then best else if ltb i best then (if gone then best else i) else best

unfoldable pub least_of : ℕ → ℕ → List ℕ → List Bool → ℕ
least_of at best [] gone = best
least_of at best (i ∷ ids) [] = best
least_of at best (i ∷ ids) (g ∷ gone) = least_of at (nearer at best i g) ids gone

-- ---- in both

-- x is in the set, over the hits of a run that has its day and the overrides.
unfoldable pub is_there : List Bool → ℕ → ℕ → List ℕ → List Bool → ℕ → Bool
is_there hits first start ids gone x = is_hit hits first start x || is_kept ids gone x

unfoldable pub lower : ℕ → ℕ → ℕ
lower a b = if ltb b a then b else a

-- What was next stays next until it is passed; then it is looked for again.
unfoldable pub renewed : List ℕ → List Bool → ℕ → ℕ → ℕ → ℕ
renewed ids gone pending at to = let again = next_of (is_kept ids gone) at to in if ltb pending at then again else pending

-- A stretch of seconds from `at` to `to` lies in the days of a run.
pub record Stretch (first n at to : ℕ) : Type 0 where
  pub low : 86400 * first ≤ at
  pub order : at ≤ to
  pub high : to ≤ 86400 * (first + n)
  pub days : first + n ≤ end_day
