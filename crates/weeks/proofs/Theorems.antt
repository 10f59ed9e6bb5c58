-- What request 1 says of its weeks: each is one of three, the tallies sum to the range's weeks, the uploads to those inside the range.
use Rattle.std.specs.Prelude.{if◌then◌else◌}
use Prim.Native.Nat.{ℕ, zero, suc, ◌+◌, ◌*◌, ◌-◌, ◌/◌, ◌%◌, ◌<◌}
use mathlib.Core.Bool.{Bool, true, false, not, ◌&&◌}
use mathlib.Core.List.{List, [], ◌∷◌}
use mathlib.Core.Logic.{⊎_elim}
use mathlib.Core.Path.{◌≡◌, refl, ap, ◌∙◌}
use native.Mathlib.Omega.{arith}
use lib.Dec.{ltb, leb, eqb}
use lib.IntN.{ℤ, pos, negsuc, ◌+ℤ◌, ◌-ℤ◌}
use borrow.Author.Tests.{ltb-true, ltb-false, leb-true, leb-false, eqb-true, eqb-false, lt-ltb, le-ltb, le-leb, lt-leb}
use Rattle.signed.specs.Parts.{pos_part, neg_part}
use Rattle.signed.proofs.Parts.{sum-parts, diff-parts, parts-eq, le_parts}
use Rattle.rule.specs.Lists.{any, count_in}
use Rattle.rule.proofs.Bools.{by}
use Rattle.sheet.specs.Runs.{tabulate}
use Rattle.sheet.specs.Records.{Row}
use Rattle.sheet.proofs.RunLaws.{tab-same}
use Rattle.weeks.specs.Weeks.{modulo, is_monday, weeks_in, week_start, in_week, touches, is_reported, is_shut, is_missing, count, uploads_in}
use Rattle.weeks.specs.Sums.{sum, in_range}
use Rattle.weeks.specs.Inner.Marks.{above}
use Rattle.weeks.proofs.Instants.{Low, one-part, lt_up, le_up, start-low, up_start, week-of}
use Rattle.weeks.proofs.Allowed.{Range}

abbrev one : Bool → ℕ
one b = if b then 1 else 0

-- ---- each week is exactly one of the three

of_three : (a t : Bool) → one a + one (not a && t) + one (not a && not (not a && t)) ≡ 1
of_three true t = refl
of_three false true = refl
of_three false false = refl

pub one_class_lem : (log : List ℤ) (rows : List Row) (from : ℤ) (i : ℕ) → one (is_reported log from i) + one (is_shut log rows from i) + one (is_missing log rows from i) ≡ 1
unfolding is_shut is_missing
one_class_lem log rows from i = of_three (is_reported log from i) (any (touches from i) rows)

-- ---- the tallies sum to the weeks

tallies-from : (log : List ℤ) (rows : List Row) (from : ℤ) (k n : ℕ)
    → count_in (is_reported log from) k n + count_in (is_shut log rows from) k n + count_in (is_missing log rows from) k n ≡ n
unfolding count_in
tallies-from log rows from k zero = refl
tallies-from log rows from k (suc n) = omega (arith, one_class_lem log rows from k, tallies-from log rows from (suc k) n)

pub tallies-sum : (log : List ℤ) (rows : List Row) (from : ℤ) (n : ℕ)
    → count_in (is_reported log from) 0 n + count_in (is_shut log rows from) 0 n + count_in (is_missing log rows from) 0 n ≡ n
tallies-sum log rows from n = tallies-from log rows from 0 n

-- ---- sums over weeks

sum-add : (f g : ℕ → ℕ) (k n : ℕ) → sum (tabulate (λ i. f i + g i) k n) ≡ sum (tabulate f k n) + sum (tabulate g k n)
unfolding sum tabulate
sum-add f g k zero = omega arith
sum-add f g k (suc n) = let e = sum-add f g (suc k) n in omega arith

sum-none : (k n : ℕ) → sum (tabulate (λ i. 0) k n) ≡ 0
unfolding sum tabulate
sum-none k zero = refl
sum-none k (suc n) = let e = sum-none (suc k) n in omega arith

under : (w k : ℕ) → w < suc k → (w ≡ k → ⊥) → w < k
under w k g h = by (ltb w k) (λ e. ltb-true w k e) (λ e. absurd (h (omega (arith, ltb-false w k e))))

same_end : (w k n : ℕ) → 0 + one (ltb w (suc k + n)) ≡ one (ltb w (k + suc n))
same_end w k n = let e : suc k + n ≡ k + suc n = omega arith in rw e (omega arith)

-- one place of n holds a 1
sum_one : (w k n : ℕ) → sum (tabulate (λ i. one (eqb w i)) k n) ≡ one (leb k w && ltb w (k + n))
unfolding sum tabulate
sum_one w k zero = by (leb k w) (λ e. rw (e, le-ltb w (k + 0) (omega (arith, leb-true k w e)))) (λ e. rw e)
sum_one w k (suc n) =
    let ih = sum_one w (suc k) n in
    by (eqb w k)
    (λ d. let h = eqb-true w k d in rw (d, ih, lt-leb (suc k) w (omega arith), le-leb k w (omega arith), lt-ltb w (k + suc n) (omega arith)))
    (λ d. let h = eqb-false w k d in rw (d, ih) (by (leb (suc k) w)
    (λ e. let g = leb-true (suc k) w e in rw (e, le-leb k w (omega arith)) (same_end w k n))
    (λ e. let g = leb-false (suc k) w e in rw (e, lt-leb k w (under w k g h)))))

at_once : (b x n : ℕ) → sum (tabulate (λ i. one (if ltb x b then false else eqb ((x - b) / 604800) i)) 0 n) ≡ one (leb b x && ltb x (b + 604800 * n))
at_once b x n =
    by (ltb x b)
    (λ e. rw (e, lt-leb b x (ltb-true x b e)) (sum-none 0 n))
    (λ e. let h = ltb-false x b e in rw (e, sum_one ((x - b) / 604800) 0 n, le-leb b x h, le-leb 0 ((x - b) / 604800) (omega arith))
    (by (ltb x (b + 604800 * n))
    (λ d. let g = ltb-true x (b + 604800 * n) d in rw (d, lt-ltb ((x - b) / 604800) (0 + n) (omega arith)))
    (λ d. let g = ltb-false x (b + 604800 * n) d in rw (d, le-ltb ((x - b) / 604800) (0 + n) (omega arith)))))

-- ---- an upload is in one week, or outside the range

one-week : (from t : ℤ) (n : ℕ) → sum (tabulate (λ i. one (in_week from i t)) 0 n) ≡ one (in_range from (week_start from n) t)
unfolding in_range
one-week from t n =
    let base = neg_part from + neg_part t in
    let a : Low base from = omega arith in
    let b : Low base t = omega arith in
    rw (le_up base from t a b, lt_up base t (week_start from n) b (start-low base from n a), up_start base from n a)
    (ap sum (tab-same (λ i. one (in_week from i t)) (λ i. one (if ltb (above base t) (above base from) then false else eqb ((above base t - above base from) / 604800) i)) 0 n (λ j p q. rw (week-of base from t a b j)))
    ∙ at_once (above base from) (above base t) n)

uploads-to : (from : ℤ) (log : List ℤ) (n : ℕ) → sum (tabulate (λ i. count (in_week from i) log) 0 n) ≡ count (in_range from (week_start from n)) log
unfolding count
uploads-to from [] n = sum-none 0 n
uploads-to from (t ∷ ts) n =
    sum-add (λ i. one (in_week from i t)) (λ i. count (in_week from i) ts) 0 n
    ∙ omega (arith, one-week from t n, uploads-to from ts n)

-- ---- whole weeks from Monday to Monday

-- floor remainder, as a difference of a multiple of 604,800
pub whole : (t : ℤ) → is_monday t ≡ true → (base : ℕ) → Low (604800 * base) t → above (604800 * base) t % 604800 ≡ 345600
unfolding modulo
whole (pos n) e base h = omega (arith, eqb-true (n % 604800) 345600 e)
whole (negsuc n) e base h = omega (arith, eqb-true (604799 - n % 604800) 345600 e)

module _ (from to : ℤ) (r : Range from to) where
  base : ℕ
  base = neg_part from + neg_part to

  forward : neg_part (to -ℤ from) ≡ 0
  forward =
      let p = le_parts from to r.later in
      let d = diff-parts to from in
      ⊎_elim (λ h. omega arith) (λ h. h) (one-part (to -ℤ from))

  pub whole-weeks : 604800 * weeks_in from to ≡ pos_part (to -ℤ from)
  unfolding weeks_in base
  whole-weeks =
      let f : Low (604800 * base) from = omega arith in
      let g : Low (604800 * base) to = omega arith in
      let a = whole from r.first base f in
      let b = whole to r.last base g in
      let d = diff-parts to from in
      let n = forward in
      omega arith

  pub range-end : week_start from (weeks_in from to) ≡ to
  unfolding week_start
  range-end =
      let k = 604800 * weeks_in from to in
      let s : pos_part (from +ℤ pos k) + neg_part from + 0 ≡ neg_part (from +ℤ pos k) + pos_part from + k = sum-parts from (pos k) in
      let d = diff-parts to from in
      let n = forward in
      let w = whole-weeks in
      parts-eq (from +ℤ pos k) to (omega arith)

pub uploads-sum : (log : List ℤ) (from to : ℤ) → Range from to → sum (tabulate (uploads_in log from) 0 (weeks_in from to)) ≡ count (in_range from to) log
unfolding uploads_in
uploads-sum log from to r = uploads-to from log (weeks_in from to) ∙ ap (λ (t : ℤ). count (in_range from t) log) (range-end from to r)
