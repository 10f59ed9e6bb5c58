-- 1,025 entries are enough: "At most 1,024 entries", so one more is as invalid as any number more.
use Prim.Native.Nat.{◌<◌, ◌≤◌}
use mathlib.Core.Bool.{Bool, true, false, false≢true}
use mathlib.Core.Path.{◌≡◌, refl, sym, ◌∙◌}
use mathlib.Core.List.{List}
use native.Mathlib.Omega.{arith}
use borrow.Author.Tests.{leb-true, leb-false, lt-leb}
use lib.Dec.{leb}
use lib.IntN.{ℤ}
use lib.ListN.{length, take, length-map, length-take}
use lib.Seq.{take_all}
use Rattle.zone.specs.Table.{valid_table}
use Rattle.entries.specs.declared.Transition.{Transition}
use Rattle.entries.specs.Gather.{instants_of, offsets_of}
use Rattle.entries.specs.Inner.Gathers.{gathered}

too_long : (initial : ℤ) (entries : List Transition) → 1024 < length entries → valid_table initial (instants_of entries) (offsets_of entries) ≡ false
unfolding valid_table instants_of
too_long initial entries h = rw (length-map, lt-leb _ _ h)

pub first-enough : (initial : ℤ) (ys : List Transition)
    → valid_table initial (instants_of ys) (offsets_of ys) ≡ valid_table initial (instants_of (gathered ys)) (offsets_of (gathered ys))
unfolding gathered
first-enough initial ys = by (leb (length ys) 1024) refl
  where
    by : (b : Bool) → leb (length ys) 1024 ≡ b
        → valid_table initial (instants_of ys) (offsets_of ys) ≡ valid_table initial (instants_of (take 1025 ys)) (offsets_of (take 1025 ys))
    by true e = rw (take_all 1025 ys (let h : length ys ≤ 1024 = leb-true _ _ e in omega arith))
    by false e =
        let h : 1024 < length ys = leb-false _ _ e in
        too_long initial ys h ∙ sym (too_long initial (take 1025 ys) (omega (arith, length-take 1025 ys)))

-- Of a valid table none is left out.
pub valid-whole : (initial : ℤ) (ys : List Transition) → valid_table initial (instants_of ys) (offsets_of ys) ≡ true → gathered ys ≡ ys
unfolding gathered
valid-whole initial ys e = by (leb (length ys) 1024) refl
  where
    by : (b : Bool) → leb (length ys) 1024 ≡ b → take 1025 ys ≡ ys
    by true e' = take_all 1025 ys (let h : length ys ≤ 1024 = leb-true _ _ e' in omega arith)
    by false e' = absurd (false≢true (sym (too_long initial ys (leb-false _ _ e')) ∙ e))
