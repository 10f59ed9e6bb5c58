-- What the code's signed operations give. A signed local holds bits, so each fact is about the number read back from its bits.
use Rattle.std.specs.Prelude.{if◌then◌else◌}
use Prim.Native.Nat.{ℕ, ◌+◌, ◌-◌, ◌<◌, ◌≤◌, ◌^◌}
use mathlib.Core.Bool.{Bool, true, false, cond}
use mathlib.Core.List.{List, ◌∷◌}
use mathlib.Core.Path.{◌≡◌, refl, sym, ◌∙◌, ap}
use native.Mathlib.Omega.{arith}
use borrow.Author.Tests.{ne_eqb}
use lib.IntN.{ℤ, pos, negsuc, nat_abs, ◌+ℤ◌, ◌-ℤ◌}
use lib.ListN.{length, get_or}
use lib.Signed.{le_z, lt_z, mag}
use mir.Syntax.{w64}
use mir.Val.{SFits, to_z, of_z}
use mir.Facts.{to_z-of_z}
use Rattle.signed.proofs.Parts.{back}
use Rattle.zone.specs.Table.{larger, within, all_within, valid_table}
use Rattle.zone.specs.Lookup.{offset_at}
use Rattle.zone.specs.Places.{InRange, mark_at}
use Rattle.zone.proofs.RangeLaws.{range_at, sum-abs, difference-abs, abs-fits}
use Rattle.std.specs.Int.{int_max}
use Rattle.zone.proofs.OrderLaws.{le_not_lt, not-le-lt}
use Rattle.zone.proofs.PassLaws.{Pass, both, mark_of, pass-start, pass-wide, pass-down, pass-next, pass-end, added-small}
use Rattle.zone.specs.declared.search.Found.{Found}
use Rattle.zone.specs.Search.{middle, halve, Halved, search_by}
use Rattle.zone.specs.Inner.Hint.{begun_at, ahead_at, still_at}
use Rattle.zone.proofs.LookupLaws.{Halves, halves-end}
use Rattle.zone.proofs.HintLaws.{still-gives, still-asked, not-begun, not-there}
use Rattle.zone.proofs.SearchLaws.{halved, Going, going_end, search-finds}

abbrev pub again : ℤ → ℤ
again z = to_z w64 (of_z w64 z)

-- ---- the larger of two

pub max_larger : (a b : ℤ) → int_max a b ≡ larger a b
unfolding larger
max_larger a b = by (le_z a b) refl
  where
    by : (t : Bool) → le_z a b ≡ t → cond (lt_z b a) a b ≡ (if t then b else a)
    by true e = rw (le_not_lt b a e)
    by false e = rw (not-le-lt b a e)

-- ---- a sum and a difference of numbers that are small enough

module _ (a b : ℤ) (f : SFits w64 a) (g : SFits w64 b) (p : nat_abs a ≤ 2 ^ 62) (q : nat_abs b ≤ 86399) where
  pub sum_fits : SFits w64 (again a +ℤ again b)
  sum_fits = rw (to_z-of_z f, to_z-of_z g) (abs-fits (a +ℤ b) (omega (arith, sum-abs a b 86399 q)))

  pub sum_is : again (again a +ℤ again b) ≡ a +ℤ b
  sum_is = to_z-of_z sum_fits ∙ (rw (to_z-of_z f, to_z-of_z g))

  pub difference-fits : SFits w64 (again a -ℤ again b)
  difference-fits = rw (to_z-of_z f, to_z-of_z g) (abs-fits (a -ℤ b) (omega (arith, difference-abs a b 86399 q)))

  pub difference-is : again (again a -ℤ again b) ≡ a -ℤ b
  difference-is = to_z-of_z difference-fits ∙ (rw (to_z-of_z f, to_z-of_z g))

-- ---- the mark, from what the calls in `mark::at` give: B the offset before, L the larger of it and the one after

module _ (b : ℤ) (ns : List ℤ) (i : ℕ) (f : SFits w64 b) (g : SFits w64 (get_or ns i (pos 0))) where
  pub larger-is : (B L : ℤ) → mag B < 2 ^ 63 → B ≡ get_or (again b ∷ ns) i (pos 0) → L ≡ larger (again B) (again (get_or ns i (pos 0)))
      → L ≡ larger (get_or (b ∷ ns) i (pos 0)) (get_or ns i (pos 0))
  larger-is B L k e h =
      let same : B ≡ get_or (b ∷ ns) i (pos 0) = rw (to_z-of_z f) at e in
      rw (back B k, to_z-of_z g, same) at h

-- ---- `mark::in_order`: r is what `within` answers of the offset at i, L the larger as `larger` gives it. The initial offset is as it is
-- read back.

-- what a turn gives once the offset is judged: the mark fits, and as it is compared the pass stops or goes on
pub record Turn (b : ℤ) (ts ns : List ℤ) (before last : ℤ) (i : ℕ) (L : ℤ) : Type 0 where
  pub fits : SFits w64 (again (get_or ts i (pos 0)) +ℤ again L)
  pub down : le_z (again (again (get_or ts i (pos 0)) +ℤ again L)) last ≡ true → false ≡ both b ts ns
  pub next : le_z (again (again (get_or ts i (pos 0)) +ℤ again L)) last ≡ false
      → Pass (again b) ts ns (again (get_or ns i (pos 0))) (again (again (get_or ts i (pos 0)) +ℤ again L)) (i + 1)

module _ (b : ℤ) (ts ns : List ℤ) (f : SFits w64 b) where
  as-given : (r : Bool) → r ≡ both (again b) ts ns → r ≡ both b ts ns
  as-given r e = rw (to_z-of_z f) at e

  pub turn-start : all_within (2 ^ 40) ts ≡ true → within 86399 b ≡ true → Pass (again b) ts ns (again b) (negsuc 2199023255551) 0
  turn-start p q = rw (to_z-of_z f) (pass-start b ts ns p q)

  module _ (even : length ts ≡ length ns) (before last : ℤ) (i : ℕ) (w : Pass (again b) ts ns before last i) where
    pub turn_end : length ts ≤ i → true ≡ both b ts ns
    turn_end h = as-given true (pass-end (again b) ts ns even before last i h w)

    module _ (h : i < length ts) (g : SFits w64 (get_or ns i (pos 0))) (r : Bool) (e : r ≡ within 86399 (again (get_or ns i (pos 0)))) where
      offset-answer : r ≡ within 86399 (get_or ns i (pos 0))
      offset-answer = rw (to_z-of_z g) at e

      pub turn-wide : r ≡ false → false ≡ both b ts ns
      turn-wide t = as-given false (pass-wide (again b) ts ns even before last i h w (sym offset-answer ∙ t))

      module _ (t : r ≡ true) (near : all_within (2 ^ 40) ts ≡ true) (j : SFits w64 (get_or ts i (pos 0)))
          (L : ℤ) (k : mag L < 2 ^ 63) (l : L ≡ larger before (again (get_or ns i (pos 0)))) where
        offset-in : within 86399 (get_or ns i (pos 0)) ≡ true
        offset-in = sym offset-answer ∙ t

        added : L ≡ larger before (get_or ns i (pos 0))
        added = rw (to_z-of_z g) at l

        added-near : nat_abs L ≤ 86399
        added-near = rw added (added-small (again b) ts ns even before last i h w offset-in)

        instant-near : nat_abs (get_or ts i (pos 0)) ≤ 2 ^ 62
        instant-near = omega (arith, range_at (2 ^ 40) ts near i)

        next-is : again (again (get_or ts i (pos 0)) +ℤ again L) ≡ mark_of (get_or ts i (pos 0)) before (get_or ns i (pos 0))
        next-is = sum_is (get_or ts i (pos 0)) L j (record { sfits = k }) instant-near added-near ∙ ap (λ (z : ℤ). get_or ts i (pos 0) +ℤ z) added

        pub turn : Turn b ts ns before last i L
        turn =
            record {
              fits = sum_fits (get_or ts i (pos 0)) L j (record { sfits = k }) instant-near added-near;
              down = λ d. as-given false (pass-down (again b) ts ns even before last i h w (rw next-is at d));
              next = λ d. rw (next-is, to_z-of_z g) (pass-next (again b) ts ns even before last i h w offset-in (rw next-is at d));
            }

-- ---- the marks, the look at the hint and the search

-- What is known of the arguments.
pub record Ranged (b : ℤ) (ts ns : List ℤ) (x : ℤ) : Type 0 where
  pub initial_fits : SFits w64 b
  pub local_fits : SFits w64 x
  pub range : InRange b ts ns

module _ {b : ℤ} {ts ns : List ℤ} {x : ℤ} (a : Ranged b ts ns x) where
  pub range-again : InRange (again b) ts ns
  range-again = rw (to_z-of_z a.initial_fits) a.range

  -- M is the mark at i as `mark::at` gives it
  mark-is : (i : ℕ) (M : ℤ) → mag M < 2 ^ 63 → M ≡ mark_at (again b) ts ns i → again M ≡ mark_at b ts ns i
  mark-is i M m e = back M m ∙ (rw (to_z-of_z a.initial_fits) at e)

  module _ (i : ℕ) where
    pub begun-is : (i ≡ 0 → ⊥) → (M : ℤ) → mag M < 2 ^ 63 → M ≡ mark_at (again b) ts ns (i - 1) → le_z (again M) (again x) ≡ begun_at (mark_at b ts ns) x i
    unfolding begun_at
    begun-is n M m e = rw (mark-is (i - 1) M m e, to_z-of_z a.local_fits, ne_eqb i 0 n)

    pub ahead-is : (i ≡ length ts → ⊥) → (M : ℤ) → mag M < 2 ^ 63 → M ≡ mark_at (again b) ts ns i → lt_z (again x) (again M) ≡ ahead_at (mark_at b ts ns) (length ts) x i
    unfolding ahead_at
    ahead-is n M m e = rw (mark-is i M m e, to_z-of_z a.local_fits, ne_eqb i (length ts) n)

    pub passed-begun : (r : Bool) → r ≡ begun_at (mark_at (again b) ts ns) (again x) i → r ≡ begun_at (mark_at b ts ns) x i
    passed-begun r e = rw (to_z-of_z a.initial_fits, to_z-of_z a.local_fits) at e

    pub passed-ahead : (r : Bool) → r ≡ ahead_at (mark_at (again b) ts ns) (length ts) (again x) i → r ≡ ahead_at (mark_at b ts ns) (length ts) x i
    passed-ahead r e = rw (to_z-of_z a.initial_fits, to_z-of_z a.local_fits) at e

  module _ (low high : ℕ) (h : low < high) (M : ℤ) (m : mag M < 2 ^ 63) (me : M ≡ mark_at (again b) ts ns (middle low high)) where
    read : (t : Bool) → lt_z (again x) (again M) ≡ t → lt_z x (mark_at b ts ns (middle low high)) ≡ t
    read t e = rw (mark-is (middle low high) M m me, to_z-of_z a.local_fits) at e

    pub step-high : lt_z (again x) (again M) ≡ true → Halved (mark_at b ts ns) x low high (record { low = low; high = middle low high })
    unfolding halve
    step-high e = rw (read true e) at (halved (mark_at b ts ns) x low high h)

    pub step-low : lt_z (again x) (again M) ≡ false → Halved (mark_at b ts ns) x low high (record { low = middle low high + 1; high = high })
    unfolding halve
    step-low e = rw (read false e) at (halved (mark_at b ts ns) x low high h)

  pub search-end : (low high steps : ℕ) → Going (length ts) (mark_at (again b) ts ns) (again x) low high steps → high ≤ low
      → record { place = low; steps = steps } ≡ search_by 11 (mark_at b ts ns) x 0 (length ts)
  search-end low high steps w h =
      rw (to_z-of_z a.initial_fits, to_z-of_z a.local_fits) at (going_end (length ts) (mark_at (again b) ts ns) (again x) low high steps w h)

-- ---- `hint::still`: p is what `begun` says, and r what is answered

module _ (b x : ℤ) (ts ns : List ℤ) (i : ℕ) (p r : Bool) where
  pub still_asked : SFits w64 b → SFits w64 x → i ≤ length ts → p ≡ begun_at (mark_at (again b) ts ns) (again x) i → p ≡ true
      → r ≡ ahead_at (mark_at (again b) ts ns) (length ts) (again x) i → r ≡ still_at (mark_at b ts ns) (length ts) x i
  still_asked f g h e q a =
      (rw (to_z-of_z f, to_z-of_z g) at a) ∙ still-asked (mark_at b ts ns) (length ts) x i h (sym (rw (to_z-of_z f, to_z-of_z g) at e) ∙ q)

  pub still_not : SFits w64 b → SFits w64 x → i ≤ length ts → p ≡ begun_at (mark_at (again b) ts ns) (again x) i → p ≡ false
      → r ≡ false → r ≡ still_at (mark_at b ts ns) (length ts) x i
  still_not f g h e q a = a ∙ not-begun (mark_at b ts ns) (length ts) x i h (sym (rw (to_z-of_z f, to_z-of_z g) at e) ∙ q)

pub still_past : (f : ℕ → ℤ) (n : ℕ) (x : ℤ) (i : ℕ) (r : Bool) → n < i → r ≡ false → r ≡ still_at f n x i
still_past f n x i r h e = e ∙ not-there f n x i h

pub ruleset still_by_tests = (still_asked, still_not, still_past)

-- ---- `offset`: R is the offset as `mark::before` gives it

pub passed-valid : (b : ℤ) (ts ns : List ℤ) → SFits w64 b → valid_table b ts ns ≡ true → valid_table (again b) ts ns ≡ true
passed-valid b ts ns f v = rw (to_z-of_z f) v

pub passed-offset : (b : ℤ) (ts ns : List ℤ) (x : ℤ) → SFits w64 b → SFits w64 x → (r : ℤ) → r ≡ offset_at (again b) ts ns (again x) → r ≡ offset_at b ts ns x
passed-offset b ts ns x f g r e = rw (to_z-of_z f, to_z-of_z g) at e

module _ {b : ℤ} {ts ns : List ℤ} {x : ℤ} (a : Ranged b ts ns x) (v : valid_table b ts ns ≡ true) where
  -- the place that the hint or the search gives
  pub hint-place : (i : ℕ) (r : Bool) → r ≡ still_at (mark_at (again b) ts ns) (length ts) (again x) i → r ≡ true → Halves b ts ns x i i
  hint-place i r e t = still-gives b ts ns v x i (sym (rw (to_z-of_z a.initial_fits, to_z-of_z a.local_fits) at e) ∙ t)

  pub search-place : (r : Found) → r ≡ search_by 11 (mark_at (again b) ts ns) (again x) 0 (length ts) → Halves b ts ns x r.place r.place
  search-place r e =
      let same : r ≡ search_by 11 (mark_at b ts ns) x 0 (length ts) = rw (to_z-of_z a.initial_fits, to_z-of_z a.local_fits) at e in
      rw same (search-finds b ts ns v x)

  module _ (i : ℕ) (w : Halves b ts ns x i i) where
    pub place-fits : i ≤ length ns
    place-fits = omega (arith, w.fits, a.range.even)

    pub place-offset : (R : ℤ) → mag R < 2 ^ 63 → R ≡ get_or (again b ∷ ns) i (pos 0) → again R ≡ offset_at b ts ns x
    place-offset R k e = back R k ∙ (rw (to_z-of_z a.initial_fits) at e) ∙ halves-end b ts ns v x i i (omega arith) w
