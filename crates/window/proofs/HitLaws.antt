-- The next hit of a run, as a second.
use Prim.Native.Nat.{ℕ, ◌+◌, ◌-◌, ◌*◌, ◌/◌, ◌%◌, ◌<◌, ◌≤◌}
use mathlib.Core.Bool.{Bool, true, false}
use mathlib.Core.List.{List}
use mathlib.Core.Path.{◌≡◌, refl, sym, ap, ◌∙◌, subst}
use native.Mathlib.Omega.{arith}
use lib.Dec.{eqb, leb, ltb}
use lib.ListN.{length, get_or}
use borrow.Author.Tests.{ltb-true, ltb-false, leb-true, leb-false, eqb-true, eq-eqb}
use Rattle.rule.specs.Gives.{end_day}
use Rattle.rule.proofs.Bools.{by}
use Rattle.window.proofs.FirstLaws.{First, first-is, first-none, first-here, first-later, first-passed}
use Rattle.window.specs.Inner.Next.{first_from, none_in, next_of, at_hit, TrueAt, is_hit, day_from, lower, Stretch}
use Rattle.window.proofs.NextLaws.{next-made}

-- ---- the walk through the hits

module _ (hits : List Bool) (from : ℕ) where
  pub true-starts : from ≤ length hits → TrueAt hits from from
  true-starts h = record { low = omega arith; within = h; same = refl }

  module _ (i : ℕ) (a : TrueAt hits from i) where
    pub true-here : i < length hits → get_or hits i false ≡ true → i ≡ first_from (at_hit hits) (length hits - from) from
    true-here more e = sym (first-here (at_hit hits) (length hits - i) i (omega arith) e) ∙ a.same

    pub true-goes-on : i < length hits → get_or hits i false ≡ false → TrueAt hits from (i + 1)
    true-goes-on more e =
        let less : length hits - (i + 1) ≡ length hits - i - 1 = omega arith in
        let low = a.low in
        record {
          low = omega arith;
          within = omega arith;
          same = rw less (sym (first-later (at_hit hits) (length hits - i) i (omega arith) e) ∙ a.same);
        }

    pub true-none : length hits ≤ i → i ≡ first_from (at_hit hits) (length hits - from) from
    true-none over =
        let none : length hits - i ≡ 0 = omega arith in
        sym (ap (λ (n : ℕ). first_from (at_hit hits) n i) none ∙ first-none (at_hit hits) i) ∙ a.same

  pub true-then : (i j : ℕ) → TrueAt hits from i → TrueAt hits i j → TrueAt hits from j
  true-then i j a b = record { low = omega (arith, a.low, b.low); within = b.within; same = b.same ∙ a.same }

-- days without a hit are passed
pub true-passed : (hits : List Bool) (i k : ℕ) → i + k ≤ length hits → (none : Bool) → none ≡ none_in (at_hit hits) i (i + k - i) → none ≡ true → TrueAt hits i (i + k)
true-passed hits i k fits none is yes-it-is =
    let less : length hits - (i + k) ≡ length hits - i - k = omega arith in
    let days : i + k - i ≡ k = omega arith in
    record {
      low = omega arith;
      within = fits;
      same = rw less (sym (first-passed (at_hit hits) k (length hits - i) i (omega arith) (ap (none_in (at_hit hits) i) (sym days) ∙ (sym is ∙ yes-it-is))));
    }

-- ---- the day that a second asks for first

pub record FromDay (start at day : ℕ) : Type 0 where
  pub reached : at ≤ 86400 * day + start % 86400
  pub earliest : (d : ℕ) → at ≤ 86400 * d + start % 86400 → day ≤ d
  pub close : 86400 * day ≤ at + 86399

pub from-day : (start at : ℕ) → FromDay start at (day_from start at)
unfolding day_from
from-day start at =
    by (leb (at % 86400) (start % 86400))
    (λ e.
    let h = leb-true (at % 86400) (start % 86400) e in
    rw e (record { reached = omega arith; earliest = λ d k. omega arith; close = omega arith }))
    (λ e.
    let h = leb-false (at % 86400) (start % 86400) e in
    rw e (record { reached = omega arith; earliest = λ d k. omega arith; close = omega arith }))

pub day-order : (start from to : ℕ) → from ≤ to → day_from start from ≤ day_from start to
day-order start from to order =
    let reached = (from-day start to).reached in
    (from-day start from).earliest (day_from start to) (omega arith)

module _ (hits : List Bool) (first start at to : ℕ) (s : Stretch first (length hits) at to) where
  pub day-low : first ≤ day_from start at
  day-low =
      let f = from-day start at in
      let reached = f.reached in
      let low = s.low in
      omega arith

  pub day-high : day_from start at ≤ first + length hits
  day-high =
      let f = from-day start at in
      let close = f.close in
      let high = s.high in
      let order = s.order in
      by (ltb (first + length hits) (day_from start at))
      (λ e. absurd (omega (arith, ltb-true (first + length hits) (day_from start at) e)))
      (λ e. ltb-false (first + length hits) (day_from start at) e)

  module _ (day from i : ℕ) (is-day : day ≡ day_from start at) (is-from : from ≡ day - first)
      (is-i : i ≡ first_from (at_hit hits) (length hits - from) from) where
    found : First (at_hit hits) (length hits - from) from i
    found = subst (First (at_hit hits) (length hits - from) from) (sym is-i) (first-is (at_hit hits) (length hits - from) from)

    pub hit-index : first + i ≤ end_day
    hit-index =
        let high = found.high in
        let most = day-high in
        let last = s.days in
        omega (arith, is-day, is-from)

    abbrev pub x : ℕ
    x = 86400 * (first + i) + start % 86400

    timed : x % 86400 ≡ start % 86400
    timed = omega arith

    on : x / 86400 - first ≡ i
    on = omega arith

    reached : at ≤ x
    reached =
        let f = from-day start at in
        let far = f.reached in
        let low = found.low in
        let first-day = day-low in
        omega (arith, is-day, is-from)

    pub hit-passes : x < to → is_hit hits first start x ≡ true
    unfolding is_hit
    hit-passes h =
        let high = s.high in
        let most = day-high in
        let first-day = day-low in
        rw (eq-eqb (x % 86400) (start % 86400) timed, on) (found.passes (omega (arith, is-day, is-from)))

    pub hit-none : (j : ℕ) → at ≤ j → j < x → is_hit hits first start j ≡ false
    unfolding is_hit
    hit-none j low high =
        by (eqb (j % 86400) (start % 86400))
        (λ e.
        let same = eqb-true (j % 86400) (start % 86400) e in
        let f = from-day start at in
        let after : day_from start at ≤ j / 86400 = f.earliest (j / 86400) (omega arith) in
        let first-day = day-low in
        rw e (found.none (j / 86400 - first) (omega (arith, is-day, is-from)) (omega arith)))
        (λ e. rw e)

    -- what the code answers
    pub hit-lower : lower to x ≡ next_of (is_hit hits first start) at to
    unfolding lower
    hit-lower =
        by (ltb x to)
        (λ e.
        rw e
        (next-made (is_hit hits first start) at to s.order x
        (record { low = reached; high = omega (arith, ltb-true x to e); passes = hit-passes; none = hit-none })))
        (λ e.
        rw e
        (next-made (is_hit hits first start) at to s.order to
        (record { low = s.order; high = omega arith; passes = λ k. absurd (omega arith); none = λ j low high. hit-none j low (omega (arith, ltb-false x to e)) })))
