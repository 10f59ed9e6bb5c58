-- One pass over the offsets and the marks. It carries the offset before the next transition and the last mark: what the rest makes of them
-- is the whole answer.
use Prim.Native.Nat.{ℕ, ◌+◌, ◌<◌, ◌≤◌, ◌^◌}
use mathlib.Core.Bool.{Bool, true, false, ◌&&◌}
use mathlib.Core.List.{List, [], ◌∷◌}
use mathlib.Core.Path.{◌≡◌, refl, sym, ◌∙◌}
use native.Mathlib.Numerals.{add-one}
use native.Mathlib.Omega.{arith}
use lib.IntN.{ℤ, pos, negsuc, nat_abs, ◌+ℤ◌}
use lib.ListN.{length, get_or, drop, drop_of_length-le}
use lib.Seq.{drop-cons}
use lib.Signed.{le_z, lt_z}
use Rattle.signed.proofs.Parts.{neg-abs, parts-lt}
use lib.Dec.{leb, eqb}
use Rattle.zone.specs.Table.{transitions, larger, mark, within, all_within, increasing, valid_table}
use Rattle.zone.proofs.RangeLaws.{and_left, range-abs, sum-abs}
use Rattle.zone.proofs.OrderLaws.{le_not_lt, not-le-lt}
use Rattle.zone.proofs.TableLaws.{marks, larger-abs}

-- a test and then another, as the code joins them
pub and-then : {v p q : Bool} → p ≡ true → v ≡ q → v ≡ p && q
and-then e f = rw (e, f)

pub and-else : {v p : Bool} (q : Bool) → p ≡ false → v ≡ p → v ≡ p && q
and-else q e f = rw (f, e)

pub and-false : (t : Bool) → t && false ≡ false
and-false true = refl
and-false false = refl

-- both answers, of a table and of what is left of one after a mark
abbrev pub both : ℤ → List ℤ → List ℤ → Bool
both b ts ns = all_within 86399 ns && increasing (marks b ts ns)

abbrev left : ℤ → ℤ → List ℤ → List ℤ → Bool
left last b ts ns = all_within 86399 ns && increasing (last ∷ marks b ts ns)

-- the definition's conditions: the code asks the order before the range, and the last two together
joined : (a b c d e f g : Bool) (v r : Bool) → v ≡ a && b && d && c && e → (v ≡ true → r ≡ f && g) → (v ≡ false → r ≡ v) → r ≡ a && b && c && d && e && f && g
joined false b c d e f g v r h p q = q h ∙ h
joined true false c d e f g v r h p q = q h ∙ h
joined true true false false e f g v r h p q = q h ∙ h
joined true true false true e f g v r h p q = q h ∙ h
joined true true true false e f g v r h p q = q h ∙ h
joined true true true true false f g v r h p q = q h ∙ h
joined true true true true true f g v r h p q = p h

pub asked : (b : ℤ) (ts ns : List ℤ) (v r : Bool)
    → v ≡ leb (length ts) 1024 && eqb (length ts) (length ns) && increasing ts && all_within 1099511627776 ts && within 86399 b
    → (v ≡ true → r ≡ both b ts ns) → (v ≡ false → r ≡ v) → r ≡ valid_table b ts ns
unfolding valid_table
asked b ts ns =
    joined (leb (length ts) 1024) (eqb (length ts) (length ns)) (all_within 1099511627776 ts) (increasing ts) (within 86399 b)
    (all_within 86399 ns) (increasing (marks b ts ns))

pub record Pass (b : ℤ) (ts ns : List ℤ) (before last : ℤ) (i : ℕ) : Type 0 where
  pub small : within 86399 before ≡ true
  pub same : left last before (drop i ts) (drop i ns) ≡ both b ts ns

-- the mark of a transition from the offset b to n at the instant t
abbrev pub mark_of : ℤ → ℤ → ℤ → ℤ
mark_of t b n = t +ℤ larger b n

-- ---- the start: no mark is as low as -2^41

above-least : (z : ℤ) → nat_abs z < 2 ^ 41 → lt_z (negsuc 2199023255551) z ≡ true
above-least z h = parts-lt (negsuc 2199023255551) z (omega (arith, neg-abs z))

mark-above : (t b n : ℤ) → within (2 ^ 40) t ≡ true → within 86399 b ≡ true → within 86399 n ≡ true → lt_z (negsuc 2199023255551) (mark_of t b n) ≡ true
mark-above t b n p q r =
    let l = larger-abs 86399 b n (range-abs _ b q) (range-abs _ n r) in
    above-least (mark_of t b n) (omega (arith, sum-abs t (larger b n) 86399 l, range-abs (2 ^ 40) t p))

-- where the first offset is too large, both are false
least : (o rest up first : Bool) → (o ≡ true → first ≡ true) → (o && rest) && (first && up) ≡ (o && rest) && up
least true rest up first f = rw (f refl)
least false rest up first f = refl

left-least : (b : ℤ) (ts ns : List ℤ) → all_within (2 ^ 40) ts ≡ true → within 86399 b ≡ true → left (negsuc 2199023255551) b ts ns ≡ both b ts ns
unfolding all_within increasing transitions mark
left-least b [] ns p q = refl
left-least b (t ∷ ts) [] p q = refl
left-least b (t ∷ ts) (n ∷ ns) p q =
    least (within 86399 n) (all_within 86399 ns) (increasing (mark_of t b n ∷ marks n ts ns)) (lt_z (negsuc 2199023255551) (mark_of t b n))
    (mark-above t b n (and_left (within (2 ^ 40) t) (all_within (2 ^ 40) ts) p) q)

pub pass-start : (b : ℤ) (ts ns : List ℤ) → all_within (2 ^ 40) ts ≡ true → within 86399 b ≡ true → Pass b ts ns b (negsuc 2199023255551) 0
pass-start b ts ns p q = record { small = q; same = left-least b ts ns p q }

-- ---- a turn: n is the offset at i, and m the mark

module _ (b : ℤ) (ts ns : List ℤ) (even : length ts ≡ length ns) (before last : ℤ) (i : ℕ) (h : i < length ts) (w : Pass b ts ns before last i) where
  abbrev n : ℤ
  n = get_or ns i (pos 0)

  abbrev m : ℤ
  m = mark_of (get_or ts i (pos 0)) before n

  split : left last before (drop i ts) (drop i ns)
      ≡ (within 86399 n && all_within 86399 (drop (i + 1) ns)) && (lt_z last m && increasing (m ∷ marks n (drop (i + 1) ts) (drop (i + 1) ns)))
  unfolding all_within increasing transitions mark
  split = rw (drop-cons ts i (pos 0) h, drop-cons ns i (pos 0) (omega arith), add-one)

  pub pass-wide : within 86399 n ≡ false → false ≡ both b ts ns
  pass-wide e = rw (← w.same, split, e)

  pub pass-down : le_z m last ≡ true → false ≡ both b ts ns
  pass-down e = rw (← w.same, split, le_not_lt last m e, and-false (within 86399 n && all_within 86399 (drop (i + 1) ns)))

  pub pass-next : within 86399 n ≡ true → le_z m last ≡ false → Pass b ts ns n m (i + 1)
  pass-next e f = record { small = e; same = (rw (e, not-le-lt last m f) at (sym split)) ∙ w.same }

  pub added-small : within 86399 n ≡ true → nat_abs (larger before n) ≤ 86399
  added-small e = larger-abs 86399 before n (range-abs _ before w.small) (range-abs _ n e)

pub pass-end : (b : ℤ) (ts ns : List ℤ) → length ts ≡ length ns → (before last : ℤ) (i : ℕ) → length ts ≤ i → Pass b ts ns before last i → true ≡ both b ts ns
unfolding all_within increasing transitions
pass-end b ts ns even before last i h w =
    rw (drop_of_length-le ts {i = i} h, drop_of_length-le ns {i = i} (omega arith)) at w.same
