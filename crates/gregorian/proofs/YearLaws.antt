-- Laws of years: the days before a year grow by its length; they repeat after a cycle of 400 years; the table has them.
use Rattle.std.specs.Prelude.{if◌then◌else◌}
use Prim.Native.Nat.{ℕ, zero, suc, ◌+◌, ◌-◌, ◌*◌, ◌/◌, ◌%◌, ◌<◌, ◌≤◌}
use mathlib.Core.Bool.{Bool, true, false}
use mathlib.Core.List.{List, [], ◌∷◌}
use mathlib.Core.Path.{◌≡◌, refl, sym, ap, ◌∙◌}
use native.Mathlib.Omega.{arith}
use lib.Dec.{ltb}
use lib.ListN.{length, get_or}
use borrow.Author.Tests.{ltb-true, ltb-false}
use Rattle.gregorian.specs.Year.{is_leap, year_length, leap_years, first_of_year}

-- ---- one year more

pub first-suc : (k : ℕ) → first_of_year (suc k) ≡ first_of_year k + year_length (1600 + k)
unfolding first_of_year leap_years year_length
first-suc k = by (is_leap (1600 + k))
  where
    by : (b : Bool) → 365 * suc k + (leap_years k + (if b then 1 else 0)) ≡ 365 * k + leap_years k + (if b then 366 else 365)
    by true = omega arith
    by false = omega arith

pub year-least : (y : ℕ) → 365 ≤ year_length y
unfolding year_length
year-least y = by (is_leap y)
  where
    by : (b : Bool) → 365 ≤ (if b then 366 else 365)
    by true = omega arith
    by false = omega arith

pub year-most : (y : ℕ) → year_length y ≤ 366
unfolding year_length
year-most y = by (is_leap y)
  where
    by : (b : Bool) → (if b then 366 else 365) ≤ 366
    by true = omega arith
    by false = omega arith

-- n years further on there are at least 365 days more for each
pub first-grows : (k n : ℕ) → first_of_year k + 365 * n ≤ first_of_year (k + n)
first-grows k zero = rw (add-zero k) (omega arith)
  where
    add-zero : (k : ℕ) → k + 0 ≡ k
    add-zero k = omega arith
first-grows k (suc n) =
    rw (next, first-suc (k + n)) (omega (arith, first-grows k n, year-least (1600 + (k + n))))
  where
    next : k + suc n ≡ suc (k + n)
    next = omega arith

pub first-zero : first_of_year 0 ≡ 0
unfolding first_of_year leap_years
first-zero = refl

pub first-most : (k : ℕ) → first_of_year k ≤ 366 * k
first-most zero = rw first-zero (omega arith)
first-most (suc k) = rw (first-suc k) (omega (arith, first-most k, year-most (1600 + k)))

-- ---- the cycle

pub leap-repeats : (c k : ℕ) → is_leap (1600 + (400 * c + k)) ≡ is_leap (1600 + k)
unfolding is_leap
leap-repeats c k = rw (four-hundred, hundred, four)
  where
    four-hundred : (1600 + (400 * c + k)) % 400 ≡ (1600 + k) % 400
    four-hundred = omega arith

    hundred : (1600 + (400 * c + k)) % 100 ≡ (1600 + k) % 100
    hundred = omega arith

    four : (1600 + (400 * c + k)) % 4 ≡ (1600 + k) % 4
    four = omega arith

pub length-repeats : (c k : ℕ) → year_length (1600 + (400 * c + k)) ≡ year_length (1600 + k)
unfolding year_length
length-repeats c k = rw (leap-repeats c k)

pub cycle-length : first_of_year 400 ≡ 146097
unfolding first_of_year leap_years is_leap
cycle-length = refl

after-cycles : (c k : ℕ) → first_of_year (400 * c + k) ≡ first_of_year (400 * c) + first_of_year k
after-cycles c zero = rw (none, first-zero) (omega arith)
  where
    none : 400 * c + 0 ≡ 400 * c
    none = omega arith
after-cycles c (suc k) =
    rw (next, first-suc (400 * c + k), first-suc k, length-repeats c k) (omega (arith, after-cycles c k))
  where
    next : 400 * c + suc k ≡ suc (400 * c + k)
    next = omega arith

cycles : (c : ℕ) → first_of_year (400 * c) ≡ 146097 * c
cycles zero = first-zero
cycles (suc c) = rw (next, after-cycles c 400) (omega (arith, cycles c, cycle-length))
  where
    next : 400 * suc c ≡ 400 * c + 400
    next = omega arith

pub first-cycle : (c k : ℕ) → first_of_year (400 * c + k) ≡ 146097 * c + first_of_year k
first-cycle c k = omega (arith, after-cycles c k, cycles c)

-- ---- the table

-- the first days of n years from the k-th on, the first of which is s
abbrev pub year_table : ℕ → ℕ → ℕ → List ℕ
year_table zero k s = []
year_table (suc n) k s = s ∷ year_table n (suc k) (s + year_length (1600 + k))

table-from : (n k s j : ℕ) → s ≡ first_of_year k → j < n → get_or (year_table n k s) j 0 ≡ first_of_year (k + j)
table-from zero k s j e h = absurd (omega arith)
table-from (suc n) k s zero e h = e ∙ ap first_of_year (omega arith)
table-from (suc n) k s (suc j) e h =
    table-from n (suc k) (s + year_length (1600 + k)) j (rw (first-suc k) (ap (λ (x : ℕ). x + year_length (1600 + k)) e)) (omega arith)
    ∙ ap first_of_year (omega arith)

-- the rule of the table, over all of its entries
pub table-rule : (k : ℕ) → k < 401 → get_or (year_table 401 0 0) k 0 ≡ first_of_year k
table-rule k h = table-from 401 0 0 k (sym first-zero) h ∙ ap first_of_year (omega arith)

-- ---- from a day of the cycle to its year

pub first-mono : (a b : ℕ) → a ≤ b → first_of_year a ≤ first_of_year b
first-mono a b h =
    let e : a + (b - a) ≡ b = omega arith in
    let g : first_of_year a + 365 * (b - a) ≤ first_of_year b = rw e at (first-grows a (b - a)) in
    omega arith

pub guess-low : (r : ℕ) → first_of_year (r / 366) ≤ r
guess-low r = omega (arith, first-most (r / 366))

first-364 : first_of_year 364 ≡ 132948
unfolding first_of_year leap_years is_leap
first-364 = refl

-- two years further on than the guess: by 365 days a year, from 1600 on, and from 1964 on with the leap days so far
pub guess-high : (k : ℕ) → k < 399 → 366 * k + 365 < first_of_year (suc (suc k))
guess-high k h = by (ltb k 364) refl
  where
    early : (k : ℕ) → 0 + (k + 2) ≡ suc (suc k)
    early k = omega arith

    late : (k : ℕ) → 364 ≤ k → 364 + (k - 362) ≡ suc (suc k)
    late k h = omega arith

    by : (b : Bool) → ltb k 364 ≡ b → 366 * k + 365 < first_of_year (suc (suc k))
    by true e =
        let g : first_of_year 0 + 365 * (k + 2) ≤ first_of_year (suc (suc k)) = rw (early k) at (first-grows 0 (k + 2)) in
        omega (arith, ltb-true k 364 e)
    by false e =
        let g : first_of_year 364 + 365 * (k - 362) ≤ first_of_year (suc (suc k)) = rw (late k (ltb-false k 364 e)) at (first-grows 364 (k - 362)) in
        omega (arith, ltb-false k 364 e, first-364)
