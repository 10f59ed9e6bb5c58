-- The look-up in a valid table finds the first mark beyond the local time by halving; the offset it gives is one of the table's.
use Rattle.std.specs.Prelude.{if◌then◌else◌}
use Prim.Native.Nat.{ℕ, zero, suc, ◌+◌, ◌-◌, ◌<◌, ◌≤◌}
use mathlib.Core.Bool.{Bool, true, false}
use mathlib.Core.List.{List, [], ◌∷◌, map}
use mathlib.Core.Path.{◌≡◌, refl, sym, ◌∙◌}
use native.Mathlib.Numerals.{add-one}
use native.Mathlib.Omega.{arith}
use lib.Dec.{ltb}
use borrow.Author.Tests.{ltb-true, ltb-false}
use lib.IntN.{ℤ, pos, nat_abs}
use lib.ListN.{length, get_or, drop, drop_of_length-le}
use lib.Signed.{le_z, lt_z}
use Rattle.zone.specs.Table.{Transition, transitions, mark, within, all_within, increasing, valid_table}
use Rattle.zone.specs.Places.{mark_at}
use Rattle.zone.specs.Lookup.{last_after, offset_at, utc_at}
use Rattle.zone.proofs.RangeLaws.{and_left, and_right, range-abs, difference-abs}
use Rattle.zone.proofs.OrderLaws.{lt_not_le, not-lt-le, not-lt-smaller, lt_trans, increasing-drop, neighbours}
use Rattle.zone.proofs.TableLaws.{transition_at, transitions-drop, transitions-length, marks, marks-length, marks-at, valid-gives}

-- beyond the first mark all are beyond
beyond : (found : ℤ) (t : Transition) (ts : List Transition) (x : ℤ) → increasing (map mark (t ∷ ts)) ≡ true → lt_z x (mark t) ≡ true → last_after found (t ∷ ts) x ≡ found
unfolding last_after increasing
beyond found t [] x up h = rw (lt_not_le x (mark t) h)
beyond found t (u ∷ ts) x up h =
    let next = lt_z (mark t) (mark u) in
    let rest = increasing (map mark (u ∷ ts)) in
    rw (lt_not_le x (mark t) h) (beyond found u ts x (and_right next rest up) (lt_trans x (mark t) (mark u) h (and_left next rest up)))

-- a mark at or before the local time is the last so far
passed : (found : ℤ) (t : Transition) (ts : List Transition) (x : ℤ) → le_z (mark t) x ≡ true → last_after found (t ∷ ts) x ≡ last_after t.after ts x
unfolding last_after
passed found t ts x e = rw e

map-drop : (i : ℕ) (ts : List Transition) → map mark (drop i ts) ≡ drop i (map mark ts)
map-drop zero ts = refl
map-drop (suc i) [] = refl
map-drop (suc i) (t ∷ ts) = map-drop i ts

-- After i transitions, all with their marks at or before the local time, the offset found is that before the next: what the rest makes of
-- it is the whole answer.
abbrev pub Look : ℤ → List ℤ → List ℤ → ℤ → ℕ → Type 0
Look b ts ns x i = last_after (get_or (b ∷ ns) i (pos 0)) (drop i (transitions b ts ns)) x ≡ offset_at b ts ns x

look-start : (b : ℤ) (ts ns : List ℤ) (x : ℤ) → Look b ts ns x 0
unfolding offset_at
look-start b ts ns x = refl

pub by : {P : Type 0} (t : Bool) → (t ≡ true → P) → (t ≡ false → P) → P
by true f g = f refl
by false f g = g refl

-- Between `low` and `high` lies the first mark beyond the local time, or none does and `high` is the end.
pub record Halves (b : ℤ) (ts ns : List ℤ) (x : ℤ) (low high : ℕ) : Type 0 where
  pub order : low ≤ high
  pub fits : high ≤ length ts
  pub found : Look b ts ns x low
  pub beyond : high < length ts → lt_z x (mark_at b ts ns high) ≡ true

module _ (b : ℤ) (ts ns : List ℤ) (v : valid_table b ts ns ≡ true) (x : ℤ) where
  even : length ts ≡ length ns
  even = (valid-gives b ts ns v).ranges.even

  look_stop : (i : ℕ) → i < length ts → Look b ts ns x i → lt_z x (mark_at b ts ns i) ≡ true → get_or (b ∷ ns) i (pos 0) ≡ offset_at b ts ns x
  unfolding mark_at
  look_stop i h inv e =
      let split = transitions-drop b ts ns even i h in
      let up = increasing-drop i (marks b ts ns) (valid-gives b ts ns v).marks_up in
      let rest = drop (suc i) (transitions b ts ns) in
      sym (beyond (get_or (b ∷ ns) i (pos 0)) (transition_at b ts ns i) rest x (rw (← map-drop i (transitions b ts ns), split) at up) e)
      ∙ (rw split at inv)

  look-next : (i : ℕ) → i < length ts → Look b ts ns x i → lt_z x (mark_at b ts ns i) ≡ false → Look b ts ns x (i + 1)
  unfolding mark_at
  look-next i h inv e =
      let split = transitions-drop b ts ns even i h in
      let rest = drop (suc i) (transitions b ts ns) in
      let passes = passed (get_or (b ∷ ns) i (pos 0)) (transition_at b ts ns i) rest x (not-lt-le x (mark_at b ts ns i) e) in
      rw add-one (sym passes ∙ (rw split at inv))

  look-end : (i : ℕ) → length ts ≤ i → Look b ts ns x i → get_or (b ∷ ns) i (pos 0) ≡ offset_at b ts ns x
  unfolding last_after
  look-end i h inv =
      let none = drop_of_length-le (transitions b ts ns) {i = i} (omega (arith, transitions-length b ts ns even)) in
      rw none at inv

  mark-before : (i : ℕ) → suc i < length ts → lt_z x (mark_at b ts ns (suc i)) ≡ false → lt_z x (mark_at b ts ns i) ≡ false
  mark-before i h e =
      let up = neighbours (marks b ts ns) i (omega (arith, marks-length b ts ns even)) (valid-gives b ts ns v).marks_up in
      not-lt-smaller x (mark_at b ts ns i) (mark_at b ts ns (suc i)) (rw (marks-at b ts ns even i (omega arith), marks-at b ts ns even (suc i) h) at up) e

  -- a mark at or before the local time has all before it there
  look-over : (d i j : ℕ) → j ≡ d + i → j < length ts → Look b ts ns x i → lt_z x (mark_at b ts ns j) ≡ false → Look b ts ns x (j + 1)
  look-over zero i j q h inv e = let none : j ≡ i = omega arith in look-next j h (rw none inv) e
  look-over (suc d) i zero q h inv e = absurd (omega arith)
  look-over (suc d) i (suc j) q h inv e =
      let same : j + 1 ≡ suc j = omega arith in
      look-next (suc j) h (rw same at (look-over d i j (omega arith) (omega arith) inv (mark-before j h e))) e

  -- ---- by halving

  pub halves-start : Halves b ts ns x 0 (length ts)
  halves-start = record { order = omega arith; fits = omega arith; found = look-start b ts ns x; beyond = λ h. absurd (omega arith) }

  pub halves-high : (low high middle : ℕ) → low ≤ middle → middle < high → Halves b ts ns x low high → lt_z x (mark_at b ts ns middle) ≡ true → Halves b ts ns x low middle
  halves-high low high middle p q w e = record { order = p; fits = omega (arith, w.fits); found = w.found; beyond = λ h. e }

  pub halves-low : (low high middle : ℕ) → low ≤ middle → middle < high → Halves b ts ns x low high → lt_z x (mark_at b ts ns middle) ≡ false
      → Halves b ts ns x (middle + 1) high
  halves-low low high middle p q w e =
      record {
        order = omega arith;
        fits = w.fits;
        found = look-over (middle - low) low middle (omega arith) (omega (arith, w.fits)) w.found e;
        beyond = w.beyond;
      }

  -- the place after a mark at or before the local time, with none or one beyond it next
  pub halves-at : (i : ℕ) → i ≤ length ts → ((i ≡ 0 → ⊥) → lt_z x (mark_at b ts ns (i - 1)) ≡ false) → (i < length ts → lt_z x (mark_at b ts ns i) ≡ true)
      → Halves b ts ns x i i
  halves-at zero h p q = record { order = omega arith; fits = h; found = look-start b ts ns x; beyond = q }
  halves-at (suc i) h p q =
      let back : suc i - 1 ≡ i = omega arith in
      let same : i + 1 ≡ suc i = omega arith in
      record {
        order = omega arith;
        fits = h;
        found = rw same at (look-over i 0 i (omega arith) (omega arith) (look-start b ts ns x) (rw back at (p (λ e. omega arith))));
        beyond = q;
      }

  pub halves-end : (low high : ℕ) → high ≤ low → Halves b ts ns x low high → get_or (b ∷ ns) low (pos 0) ≡ offset_at b ts ns x
  halves-end low high h w =
      let same : high ≡ low = omega (arith, w.order) in
      decide (λ g. look_stop low g w.found (rw same at w.beyond g)) (λ g. look-end low g w.found)
    where
      decide : (low < length ts → get_or (b ∷ ns) low (pos 0) ≡ offset_at b ts ns x) → (length ts ≤ low → get_or (b ∷ ns) low (pos 0) ≡ offset_at b ts ns x)
          → get_or (b ∷ ns) low (pos 0) ≡ offset_at b ts ns x
      decide f g = by (ltb low (length ts)) (λ e. f (ltb-true _ _ e)) (λ e. g (ltb-false _ _ e))

-- ---- for callers: the offset is within ±86,399

chosen : (t : Bool) (k : ℕ) (a b : ℤ) → nat_abs a ≤ k → nat_abs b ≤ k → nat_abs (if t then a else b) ≤ k
chosen true k a b p q = p
chosen false k a b p q = q

last-abs : (k : ℕ) (found b : ℤ) (ts ns : List ℤ) (x : ℤ) → nat_abs found ≤ k → all_within k ns ≡ true → nat_abs (last_after found (transitions b ts ns) x) ≤ k
unfolding last_after transitions all_within
last-abs k found b [] ns x p q = p
last-abs k found b (t ∷ ts) [] x p q = p
last-abs k found b (t ∷ ts) (n ∷ ns) x p q =
    let reached = le_z (mark (record { instant = t; before = b; after = n })) x in
    last-abs k (if reached then n else found) n ts ns x
    (chosen reached k n found (range-abs k n (and_left (within k n) (all_within k ns) q)) p)
    (and_right (within k n) (all_within k ns) q)

pub offset-abs : (b : ℤ) (ts ns : List ℤ) → valid_table b ts ns ≡ true → (x : ℤ) → nat_abs (offset_at b ts ns x) ≤ 86399
unfolding offset_at
offset-abs b ts ns v x =
    let r = (valid-gives b ts ns v).ranges in last-abs 86399 b b ts ns x (range-abs 86399 b r.initial_in) r.offsets_in

-- so UTC is no farther from the local time
pub utc-abs : (b : ℤ) (ts ns : List ℤ) → valid_table b ts ns ≡ true → (x : ℤ) → nat_abs (utc_at b ts ns x) ≤ nat_abs x + 86399
unfolding utc_at
utc-abs b ts ns v x = difference-abs x (offset_at b ts ns x) 86399 (offset-abs b ts ns v x)
