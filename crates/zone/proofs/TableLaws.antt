-- The transitions of a table by their places, and what a valid table gives.
use Rattle.std.specs.Prelude.{if◌then◌else◌}
use Prim.Native.Nat.{ℕ, zero, suc, ◌<◌, ◌≤◌}
use mathlib.Core.Bool.{Bool, true, false, ◌&&◌}
use mathlib.Core.List.{List, [], ◌∷◌, map}
use mathlib.Core.Path.{◌≡◌, refl, ap}
use native.Mathlib.Omega.{arith}
use borrow.Author.Tests.{leb-true, eqb-true}
use lib.IntN.{ℤ, pos, nat_abs}
use lib.ListN.{length, get_or, drop}
use lib.Signed.{le_z}
use Rattle.zone.specs.Table.{Transition, transitions, larger, mark, within, all_within, increasing, valid_table}
use Rattle.zone.specs.Places.{InRange, mark_at}
use Rattle.zone.proofs.RangeLaws.{and_left, and_right, range-abs, range_at}

-- the transition at a place, as `mark_at` has it
abbrev pub transition_at : ℤ → List ℤ → List ℤ → ℕ → Transition
transition_at b ts ns i = record { instant = get_or ts i (pos 0); before = get_or (b ∷ ns) i (pos 0); after = get_or ns i (pos 0) }

pub transitions-drop : (b : ℤ) (ts ns : List ℤ) → length ts ≡ length ns → (i : ℕ) → i < length ts
    → drop i (transitions b ts ns) ≡ transition_at b ts ns i ∷ drop (suc i) (transitions b ts ns)
unfolding transitions
transitions-drop b [] ns e i h = absurd (omega arith)
transitions-drop b (t ∷ ts) [] e i h = absurd (omega arith)
transitions-drop b (t ∷ ts) (n ∷ ns) e zero h = refl
transitions-drop b (t ∷ ts) (n ∷ ns) e (suc i) h = transitions-drop n ts ns (omega arith) i (omega arith)

pub transitions-length : (b : ℤ) (ts ns : List ℤ) → length ts ≡ length ns → length (transitions b ts ns) ≡ length ts
unfolding transitions
transitions-length b [] ns e = refl
transitions-length b (t ∷ ts) [] e = absurd (omega arith)
transitions-length b (t ∷ ts) (n ∷ ns) e = ap suc (transitions-length n ts ns (omega arith))

-- the marks, in order
abbrev pub marks : ℤ → List ℤ → List ℤ → List ℤ
marks b ts ns = map mark (transitions b ts ns)

pub marks-length : (b : ℤ) (ts ns : List ℤ) → length ts ≡ length ns → length (marks b ts ns) ≡ length ts
unfolding transitions
marks-length b [] ns e = refl
marks-length b (t ∷ ts) [] e = absurd (omega arith)
marks-length b (t ∷ ts) (n ∷ ns) e = ap suc (marks-length n ts ns (omega arith))

pub marks-at : (b : ℤ) (ts ns : List ℤ) → length ts ≡ length ns → (i : ℕ) → i < length ts → get_or (marks b ts ns) i (pos 0) ≡ mark_at b ts ns i
unfolding transitions mark_at
marks-at b [] ns e i h = absurd (omega arith)
marks-at b (t ∷ ts) [] e i h = absurd (omega arith)
marks-at b (t ∷ ts) (n ∷ ns) e zero h = refl
marks-at b (t ∷ ts) (n ∷ ns) e (suc i) h = marks-at n ts ns (omega arith) i (omega arith)

-- ---- the mark fits

larger-either : (t : Bool) (k : ℕ) (a b : ℤ) → nat_abs a ≤ k → nat_abs b ≤ k → nat_abs (if t then b else a) ≤ k
larger-either true k a b p q = q
larger-either false k a b p q = p

pub larger-abs : (k : ℕ) (a b : ℤ) → nat_abs a ≤ k → nat_abs b ≤ k → nat_abs (larger a b) ≤ k
unfolding larger
larger-abs k a b p q = larger-either (le_z a b) k a b p q

pub before-abs : (b : ℤ) (ns : List ℤ) (i : ℕ) → within 86399 b ≡ true → all_within 86399 ns ≡ true → nat_abs (get_or (b ∷ ns) i (pos 0)) ≤ 86399
before-abs b ns zero p q = range-abs _ b p
before-abs b ns (suc i) p q = range_at _ ns q i

-- ---- a valid table, condition by condition

pub record Valid (b : ℤ) (ts ns : List ℤ) : Type 0 where
  pub count : length ts ≤ 1024
  pub ranges : InRange b ts ns
  pub instants_up : increasing ts ≡ true
  pub marks_up : increasing (marks b ts ns) ≡ true

module _ (a b c d e f g : Bool) where
  record Seven : Type 0 where
    p0 : a ≡ true
    p1 : b ≡ true
    p2 : c ≡ true
    p3 : d ≡ true
    p4 : e ≡ true
    p5 : f ≡ true
    p6 : g ≡ true

  seven : a && b && c && d && e && f && g ≡ true → Seven
  seven h =
      let h5 = and_left (a && b && c && d && e && f) g h in
      let h4 = and_left (a && b && c && d && e) f h5 in
      let h3 = and_left (a && b && c && d) e h4 in
      let h2 = and_left (a && b && c) d h3 in
      let h1 = and_left (a && b) c h2 in
      record {
        p0 = and_left a b h1;
        p1 = and_right a b h1;
        p2 = and_right (a && b) c h2;
        p3 = and_right (a && b && c) d h3;
        p4 = and_right (a && b && c && d) e h4;
        p5 = and_right (a && b && c && d && e) f h5;
        p6 = and_right (a && b && c && d && e && f) g h;
      }

pub valid-gives : (b : ℤ) (ts ns : List ℤ) → valid_table b ts ns ≡ true → Valid b ts ns
unfolding valid_table
valid-gives b ts ns h =
    let s = seven _ _ _ _ _ _ _ h in
    record {
      count = leb-true _ _ s.p0;
      ranges = record { even = eqb-true _ _ s.p1; instants_in = s.p2; initial_in = s.p4; offsets_in = s.p5 };
      instants_up = s.p3;
      marks_up = s.p6;
    }
