-- Laws of months: only February differs in a leap year; twelve months make the year.
use Rattle.std.specs.Prelude.{if◌then◌else◌}
use Prim.Native.Nat.{ℕ, zero, suc, ◌+◌, ◌-◌, ◌/◌, ◌<◌, ◌≤◌}
use mathlib.Core.Bool.{Bool, true, false}
use mathlib.Core.List.{List}
use mathlib.Core.Path.{◌≡◌, refl, sym, ap, ◌∙◌}
use native.Mathlib.Omega.{arith}
use lib.Dec.{T, leb, ltb, leb→le, ltb→lt}
use borrow.Author.Tests.{ltb-true, ltb-false}
use lib.ListN.{get_or, get_or-eq_default}
use Rattle.gregorian.proofs.Computed.{all_below, all-below, tabulate, entry}
use Rattle.gregorian.specs.Year.{is_leap, year_length}
use Rattle.gregorian.specs.Month.{lengths, length_in, start_in, month_length, month_start}

pub february : (leap : Bool) → (if leap then 29 else 28) ≡ length_in leap 2
unfolding length_in
february leap = refl

pub length-common : (leap : Bool) (m : ℕ) → (m ≡ 2 → ⊥) → length_in false m ≡ length_in leap m
unfolding length_in
length-common leap zero h = refl
length-common leap (suc zero) h = refl
length-common leap (suc (suc zero)) h = absurd (h refl)
length-common leap (suc (suc (suc m))) h = refl

pub length_none : (leap : Bool) (m : ℕ) → 12 < m → 0 ≡ length_in leap m
unfolding length_in
length_none leap m h = sym (get_or-eq_default (lengths leap) 0 h)

pub length_most : (leap : Bool) (m : ℕ) → length_in leap m ≤ 31
unfolding length_in
length_most leap m = by (ltb 12 m) refl
  where
    within : (leap : Bool) → T (all_below (λ m. leb (length_in leap m) 31) 13)
    within true = tt
    within false = tt

    by : (b : Bool) → ltb 12 m ≡ b → length_in leap m ≤ 31
    by true e = omega (arith, length_none leap m (ltb-true 12 m e))
    by false e = leb→le (length_in leap m) 31 (all-below (λ m. leb (length_in leap m) 31) 13 (within leap) m (omega (arith, ltb-false 12 m e)))

-- ---- starts

pub start-early : (leap : Bool) (m : ℕ) → m < 3 → start_in false m ≡ start_in leap m
unfolding start_in length_in
start-early leap zero h = refl
start-early leap (suc zero) h = refl
start-early leap (suc (suc zero)) h = refl
start-early leap (suc (suc (suc m))) h = absurd (omega arith)

-- January and February
sixty : start_in true 3 ≡ start_in false 3 + 1
unfolding start_in length_in
sixty = refl

pub start-leap : (m : ℕ) → 3 ≤ m → start_in true m ≡ start_in false m + 1
unfolding start_in
start-leap zero h = absurd (omega arith)
start-leap (suc zero) h = absurd (omega arith)
start-leap (suc (suc zero)) h = absurd (omega arith)
start-leap (suc (suc (suc zero))) h = sixty
start-leap (suc (suc (suc (suc m)))) h =
    rw (start-leap (suc (suc (suc m))) (omega arith), ← (length-common true (suc (suc (suc m))) (omega arith))) (omega arith)

pub year-is-months : (y : ℕ) → year_length y ≡ month_start y 13
unfolding year_length month_start start_in length_in
year-is-months y = by (is_leap y)
  where
    by : (b : Bool) → (if b then 366 else 365) ≡ start_in b 13
    by true = refl
    by false = refl

-- ---- by the year

module _ (y m : ℕ) where
  pub month-none : 12 < m → 0 ≡ month_length y m
  unfolding month_length
  month-none h = length_none (is_leap y) m h

  pub month-february : (leap : Bool) → is_leap y ≡ leap → m ≡ 2 → (if leap then 29 else 28) ≡ month_length y m
  unfolding month_length
  month-february leap e f = rw (f, e) (february leap)

  pub month-other : (m ≡ 2 → ⊥) → get_or (lengths false) m 0 ≡ month_length y m
  unfolding month_length length_in
  month-other h = length-common (is_leap y) m h

  pub month-most : month_length y m ≤ 31
  unfolding month_length
  month-most = length_most (is_leap y) m

  pub month-early : m < 3 → start_in false m ≡ month_start y m
  unfolding month_start
  month-early h = start-early (is_leap y) m h

  pub month-leap : is_leap y ≡ true → 3 ≤ m → start_in false m + 1 ≡ month_start y m
  unfolding month_start
  month-leap e h = rw e (sym (start-leap m h))

  pub month-common : is_leap y ≡ false → start_in false m ≡ month_start y m
  unfolding month_start
  month-common e = rw e

  pub month-next : month_start y (suc m) ≡ month_start y m + month_length y m
  unfolding month_start start_in month_length
  month-next = refl

-- the constant array of starts is this list by computation
abbrev pub start_table : List ℕ
start_table = tabulate (start_in false) 14 0

pub start-rule : (m : ℕ) → m ≤ 13 → get_or start_table m 0 ≡ start_in false m
start-rule m h = entry (start_in false) 14 m (omega arith)

pub start-most : (m : ℕ) → m ≤ 13 → start_in false m ≤ 365
unfolding start_in length_in
start-most m h = leb→le (start_in false m) 365 (all-below (λ m. leb (start_in false m) 365) 14 tt m (omega arith))

-- ---- from a day of the year to its month

start-adds : (leap : Bool) (m n : ℕ) → start_in leap m ≤ start_in leap (m + n)
unfolding start_in
start-adds leap m zero =
    let none : m + 0 ≡ m = omega arith in
    rw none (omega arith)
start-adds leap m (suc n) =
    let next : m + suc n ≡ suc (m + n) = omega arith in
    rw next (omega (arith, start-adds leap m n))

pub month-mono : (y a b : ℕ) → a ≤ b → month_start y a ≤ month_start y b
unfolding month_start
month-mono y a b h =
    let e : a + (b - a) ≡ b = omega arith in
    rw e at (start-adds (is_leap y) a (b - a))

-- at each day of a year of either length
not_after : Bool → ℕ → Bool
not_after leap r = leb (start_in leap (r / 32 + 1)) r

not_before : Bool → ℕ → Bool
not_before leap r = ltb r (start_in leap (suc (suc (r / 32 + 1))))

none_after : (leap : Bool) → T (all_below (not_after leap) (start_in leap 13))
unfolding not_after start_in length_in
none_after true = tt
none_after false = tt

none_before : (leap : Bool) → T (all_below (not_before leap) (start_in leap 13))
unfolding not_before start_in length_in
none_before true = tt
none_before false = tt

module _ (y r : ℕ) (h : r < year_length y) where
  within : r < start_in (is_leap y) 13
  unfolding month_start
  within = rw (year-is-months y) at h

  pub month-guess-low : month_start y (r / 32 + 1) ≤ r
  unfolding month_start not_after
  month-guess-low =
      leb→le (month_start y (r / 32 + 1)) r (all-below (not_after (is_leap y)) (start_in (is_leap y) 13) (none_after (is_leap y)) r within)

  pub month-guess-high : r < month_start y (suc (suc (r / 32 + 1)))
  unfolding month_start not_before
  month-guess-high =
      ltb→lt r (month_start y (suc (suc (r / 32 + 1)))) (all-below (not_before (is_leap y)) (start_in (is_leap y) 13) (none_before (is_leap y)) r within)
