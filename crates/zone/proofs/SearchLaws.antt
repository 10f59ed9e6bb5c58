-- The search over the marks: a step leaves at most half the run, so that n steps end in any run shorter than 2^n.
use Rattle.std.specs.Prelude.{if◌then◌else◌}
use Prim.Native.Nat.{ℕ, zero, suc, ◌+◌, ◌-◌, ◌*◌, ◌<◌, ◌≤◌, ◌^◌}
use mathlib.Core.Bool.{Bool, true, false}
use mathlib.Core.List.{List}
use mathlib.Core.Path.{◌≡◌, refl, sym, ◌∙◌, ap}
use native.Mathlib.Numerals.{sub-one}
use native.Mathlib.Omega.{arith}
use lib.Dec.{ltb}
use borrow.Author.Tests.{ltb-true, ltb-false, lt-ltb, le-ltb}
use lib.IntN.{ℤ}
use lib.ListN.{length}
use lib.Signed.{lt_z}
use Rattle.zone.specs.declared.search.Span.{Span}
use Rattle.zone.specs.declared.search.Found.{Found}
use Rattle.zone.specs.Table.{valid_table}
use Rattle.zone.specs.Places.{mark_at}
use Rattle.zone.specs.Search.{middle, halve, AtMostHalf, Halved, ended, one_more, search_by}
use Rattle.zone.proofs.TableLaws.{valid-gives}
use Rattle.zone.proofs.LookupLaws.{by, Halves, halves-start, halves-high, halves-low}

-- ---- a step

abbrev parted : Bool → ℕ → ℕ → Span
parted t low high = if t then record { low = low; high = middle low high } else record { low = middle low high + 1; high = high }

part : (t : Bool) (low high : ℕ) → low < high → AtMostHalf low high (parted t low high)
part true low high h = record { begins = omega arith; order = omega arith; ends = omega arith; half = omega arith }
part false low high h = record { begins = omega arith; order = omega arith; ends = omega arith; half = omega arith }

-- whatever the mark m
pub at-most-half : (x : ℤ) (low high : ℕ) (m : ℤ) → low < high → AtMostHalf low high (halve x low high m)
unfolding halve
at-most-half x low high m h = part (lt_z x m) low high h

pub halved : (marks : ℕ → ℤ) (x : ℤ) (low high : ℕ) → low < high → Halved marks x low high (halve x low high (marks (middle low high)))
halved marks x low high h = record { one_mark = refl; left = at-most-half x low high (marks (middle low high)) h }

-- ---- the search from its first step on, and where the run is empty

pub search-empty : (n : ℕ) (marks : ℕ → ℤ) (x : ℤ) (low high : ℕ) → high ≤ low → search_by n marks x low high ≡ ended low
unfolding search_by
search-empty zero marks x low high h = refl
search-empty (suc n) marks x low high h = rw (le-ltb low high h)

pub search-step : (n : ℕ) → 0 < n → (marks : ℕ → ℤ) (x : ℤ) (low high : ℕ) → low < high → (s : Span) → s ≡ halve x low high (marks (middle low high))
    → search_by n marks x low high ≡ one_more (search_by (n - 1) marks x s.low s.high)
unfolding search_by
search-step zero p marks x low high h s e = absurd (omega arith)
search-step (suc n) p marks x low high h s e = rw (lt-ltb low high h, e, sub-one)

-- at most n steps
pub steps-most : (n : ℕ) (marks : ℕ → ℤ) (x : ℤ) (low high : ℕ) → (search_by n marks x low high).steps ≤ n
unfolding search_by
steps-most zero marks x low high = omega arith
steps-most (suc n) marks x low high =
    let s = halve x low high (marks (middle low high)) in
    by (ltb low high) (search_by n marks x s.low s.high) (steps-most n marks x s.low s.high)
  where
    by : (t : Bool) (f : Found) → f.steps ≤ n → (if t then one_more f else ended low).steps ≤ suc n
    by true f h = omega arith
    by false f h = omega arith

-- ---- the steps as the code counts them

abbrev pub after : ℕ → Found → Found
after k f = record { place = f.place; steps = f.steps + k }

-- The search from here on, the steps taken added, is the whole search; the steps left are enough.
pub record Going (n : ℕ) (marks : ℕ → ℤ) (x : ℤ) (low high steps : ℕ) : Type 0 where
  pub fits : high ≤ n
  pub most : steps ≤ 11
  pub few : high - low < 2 ^ (11 - steps)
  pub same : after steps (search_by (11 - steps) marks x low high) ≡ search_by 11 marks x 0 n

counted : (f : Found) (m : ℕ) → f.steps ≡ m → f ≡ record { place = f.place; steps = m }
counted f m e = ap (λ (k : ℕ). let r : Found = record { place = f.place; steps = k } in r) e

double : (n : ℕ) → 2 ^ suc n ≡ 2 * 2 ^ n
double n = omega arith

module _ (n : ℕ) (marks : ℕ → ℤ) (x : ℤ) where
  pub going_start : n < 2 ^ 11 → Going n marks x 0 n 0
  going_start h = record { fits = omega arith; most = omega arith; few = omega arith; same = sym (counted (search_by 11 marks x 0 n) _ (omega arith)) }

  module _ (low high steps : ℕ) (g : Going n marks x low high steps) where
    next-by : (k : ℕ) → k ≡ 11 - steps → low < high → (s : Span) → Halved marks x low high s → high - low < 2 ^ k
        → after steps (search_by k marks x low high) ≡ search_by 11 marks x 0 n → Going n marks x s.low s.high (steps + 1)
    next-by zero e h s w few same = absurd (omega arith)
    next-by (suc k) e h s w few same =
        let left : 11 - (steps + 1) ≡ k = omega arith in
        let first = search-step (suc k) (omega arith) marks x low high h s w.one_mark in
        let half = w.left.half in
        let two = double k in
        record {
          fits = omega (arith, w.left.ends, g.fits);
          most = omega arith;
          few = rw left (omega arith);
          same = rw left (moved (search_by k marks x s.low s.high) ∙ (rw (first, sub-one) at same));
        }
      where
        moved : (f : Found) → after (steps + 1) f ≡ after steps (one_more f)
        moved f = counted (after (steps + 1) f) (f.steps + 1 + steps) (omega arith)

    pub going_next : low < high → (s : Span) → Halved marks x low high s → Going n marks x s.low s.high (steps + 1)
    going_next h s w = next-by (11 - steps) refl h s w g.few g.same

    pub going_end : high ≤ low → record { place = low; steps = steps } ≡ search_by 11 marks x 0 n
    going_end h = counted (record { place = low; steps = steps }) (0 + steps) (omega arith) ∙ (rw (search-empty (11 - steps) marks x low high h) at g.same)

-- ---- in a valid table the search finds the offset

module _ (b : ℤ) (ts ns : List ℤ) (v : valid_table b ts ns ≡ true) (x : ℤ) where
  abbrev marks : ℕ → ℤ
  marks = mark_at b ts ns

  step_keeps : (low high : ℕ) → low < high → Halves b ts ns x low high
      → Halves b ts ns x (halve x low high (marks (middle low high))).low (halve x low high (marks (middle low high))).high
  unfolding halve
  step_keeps low high h w = go (lt_z x (marks (middle low high))) refl
    where
      go : (t : Bool) → lt_z x (marks (middle low high)) ≡ t
          → Halves b ts ns x (parted t low high).low (parted t low high).high
      go true e = halves-high b ts ns v x low high (middle low high) (omega arith) (omega arith) w e
      go false e = halves-low b ts ns v x low high (middle low high) (omega arith) (omega arith) w e

  -- where the run is empty
  ends-empty : (n low high : ℕ) → high ≤ low → Halves b ts ns x low high → Halves b ts ns x (search_by n marks x low high).place (search_by n marks x low high).place
  ends-empty n low high e w =
      let same : high ≡ low = omega (arith, w.order) in
      rw (search-empty n marks x low high e) (rw same at w)

  shorter : (n low high : ℕ) → low < high → high - low < 2 ^ suc n
      → (halve x low high (marks (middle low high))).high - (halve x low high (marks (middle low high))).low < 2 ^ n
  shorter n low high h f = omega (arith, (at-most-half x low high (marks (middle low high)) h).half, double n)

  pub search-ends : (n low high : ℕ) → high - low < 2 ^ n → Halves b ts ns x low high
      → Halves b ts ns x (search_by n marks x low high).place (search_by n marks x low high).place
  search-ends zero low high h w = ends-empty 0 low high (omega arith) w
  search-ends (suc n) low high h w =
      let s = halve x low high (marks (middle low high)) in
      by (ltb low high)
      (λ e.
      let p = ltb-true _ _ e in
      rw (search-step (suc n) (omega arith) marks x low high p s refl, sub-one)
      (search-ends n s.low s.high (shorter n low high p h) (step_keeps low high p w)))
      (λ e. ends-empty (suc n) low high (ltb-false _ _ e) w)

  -- "11 steps find the offset in any valid table"
  pub search-finds : Halves b ts ns x (search_by 11 marks x 0 (length ts)).place (search_by 11 marks x 0 (length ts)).place
  search-finds = search-ends 11 0 (length ts) (omega (arith, (valid-gives b ts ns v).count)) (halves-start b ts ns v x)
