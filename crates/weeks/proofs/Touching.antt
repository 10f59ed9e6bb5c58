-- A span that has seconds touches the weeks with which it shares an instant.
use Prim.Native.Nat.{ℕ, suc, ◌+◌, ◌*◌}
use mathlib.Core.Bool.{true, ◌&&◌}
use mathlib.Core.Logic.{◌↔◌}
use mathlib.Core.Path.{◌≡◌, sym, ◌∙◌}
use native.Mathlib.Omega.{arith}
use lib.IntN.{ℤ, pos, ◌+ℤ◌}
use lib.Signed.{lt_z, le_z}
use Rattle.signed.specs.Parts.{pos_part, neg_part}
use Rattle.signed.proofs.Parts.{lt-parts, le_parts, not-le-parts, parts-lt, parts-le, sum-parts}
use Rattle.rule.proofs.Bools.{by, both, left, right}
use Rattle.sheet.specs.Records.{Row}
use Rattle.weeks.specs.Weeks.{week_start, in_week, touches}
use Rattle.weeks.specs.Touching.{Shares}

next-later : (from : ℤ) (i : ℕ) → lt_z (week_start from i) (week_start from (suc i)) ≡ true
unfolding week_start
next-later from i =
    let a : pos_part (from +ℤ pos (604800 * i)) + neg_part from + 0 ≡ neg_part (from +ℤ pos (604800 * i)) + pos_part from + 604800 * i = sum-parts from (pos (604800 * i)) in
    let b : pos_part (from +ℤ pos (604800 * suc i)) + neg_part from + 0 ≡ neg_part (from +ℤ pos (604800 * suc i)) + pos_part from + 604800 * suc i = sum-parts from (pos (604800 * suc i)) in
    parts-lt (from +ℤ pos (604800 * i)) (from +ℤ pos (604800 * suc i)) (omega arith)

-- ---- the law

module _ (from : ℤ) (i : ℕ) (r : Row) (long : lt_z r.start r.end ≡ true) where
  monday : ℤ
  monday = week_start from i

  next : ℤ
  next = week_start from (suc i)

  is : touches from i r ≡ (lt_z r.start next && lt_z monday r.end)
  unfolding touches monday next
  is = rw long

  -- the span's start, or the week's where that is later
  shared : touches from i r ≡ true → Shares from i r
  unfolding in_week monday next
  shared e =
      let t = sym is ∙ e in
      let soon = left (lt_z r.start next) _ t in
      let far = right (lt_z r.start next) _ t in
      by (le_z monday r.start)
      (λ h.
      record { instant = r.start; in_it = both (le_z monday r.start) _ h soon; not_before = parts-le r.start r.start (omega arith); before = long })
      (λ h.
      record {
        instant = monday;
        in_it = both (le_z monday monday) _ (parts-le monday monday (omega arith)) (next-later from i);
        not_before = parts-le r.start monday (omega (arith, not-le-parts monday r.start h));
        before = far;
      })

  touched : Shares from i r → touches from i r ≡ true
  unfolding in_week monday next
  touched s =
      let a = left (le_z monday s.instant) _ s.in_it in
      let b = right (le_z monday s.instant) _ s.in_it in
      is
      ∙ both (lt_z r.start next) _
      (parts-lt r.start next (omega (arith, le_parts r.start s.instant s.not_before, lt-parts s.instant next b)))
      (parts-lt monday r.end (omega (arith, le_parts monday s.instant a, lt-parts s.instant r.end s.before)))

  pub touches-shares : (touches from i r ≡ true) ↔ Shares from i r
  touches-shares = (shared, touched)
