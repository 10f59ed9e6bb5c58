-- The names of a patch: one turn of each loop, and the definitions of `event` by the members of the walk.
use Rattle.std.proofs.Common.{Option, Some, None}
use Rattle.std.specs.Option.{is_none}
use Prim.Native.Nat.{ℕ, zero, suc, ◌+◌, ◌-◌, ◌<◌, ◌≤◌, min}
use mathlib.Core.Bool.{Bool, true, false, not, ◌||◌}
use mathlib.Core.List.{List, [], ◌∷◌}
use mathlib.Core.Path.{◌≡◌, refl, ap, sym, ◌∙◌}
use native.Mathlib.Numerals.{add-one}
use native.Mathlib.Omega.{arith}
use lib.Dec.{eqb}
use lib.ListN.{length, take, drop, get_or-eq_default}
use lib.Seq.{drop-cons, take-nil}
use native.Mathlib.Decide.{dec_lt}
use Rattle.std.specs.List.{list_any}
use Rattle.std.proofs.lemmas.List.{drop_all, take_all, take_min, length-drop}
use Rattle.fault.specs.Fault.{lower, first}
use Rattle.fault.proofs.Laws.{first-append}
use Rattle.json_walk.specs.Strings.{bytes_at, raw_at}
use Rattle.json_walk.specs.Inner.Within.{ahead}
use Rattle.json_walk.specs.Walk.{first_member_at, next_member_at, members_from, members_of}
use Rattle.json_walk.specs.declared.Member.{Member}
use Rattle.json_walk.proofs.Laws.{bytes-ahead}
use Rattle.json_walk.proofs.Walks.{members-end}
use Rattle.json_tree.specs.Tree.{Json, fields_of}
use Rattle.event.specs.Overrides.{has_mark, name_fault, name_faults, alone}
use Rattle.override_text.specs.Inner.Names.{lowest, of_name, single}

-- ---- the definitions of `event`

pub names-tree : (tree : ℕ → Json) (s : List ℕ) (ms : List Member) → lowest (of_name s) ms ≡ first (name_faults (fields_of tree s ms))
unfolding fields_of name_faults lowest first
names-tree tree s [] = refl
names-tree tree s (m ∷ ms) =
    ap (lower (of_name s m)) (names-tree tree s ms)
    ∙ sym (first-append (name_fault m.name (raw_at s m.name m.stop)) (name_faults (fields_of tree s ms)))

pub alone-tree : (tree : ℕ → Json) (s : List ℕ) (ms : List Member) → single ms ≡ alone (fields_of tree s ms)
unfolding fields_of alone single
alone-tree tree s [] = refl
alone-tree tree s (m ∷ []) = refl
alone-tree tree s (m ∷ n ∷ ms) = refl

-- ---- `/` and `~`

abbrev pub is_mark : ℕ → Bool
is_mark b = eqb b 0x2F || eqb b 0x7E

or-assoc : (a b c : Bool) → ((a || b) || c) ≡ (a || (b || c))
or-assoc true b c = refl
or-assoc false b c = refl

-- The bytes that the text has from a place on, at most n, have a mark where n bytes have one: past the end they are 0.
marks : (n : ℕ) (s : List ℕ) (i : ℕ) → list_any is_mark (take n (drop i s)) ≡ has_mark (bytes_at n s i)
unfolding bytes_at has_mark
marks zero s i = refl
marks (suc n) s i = go (dec_lt i (length s)) (marks n s (i + 1))
  where
    go : Dec (i < length s) → list_any is_mark (take n (drop (i + 1) s)) ≡ has_mark (bytes_at n s (i + 1)) → list_any is_mark (take (suc n) (drop i s)) ≡ has_mark (bytes_at (suc n) s i)
    go (yes p) h = rw (drop-cons s i 0 p, or-assoc, ← (add-one i), h)
    go (no q) h =
        let r : length s ≤ i = omega arith in
        let far : length s ≤ i + 1 = omega arith in
        rw (drop_all i s r, get_or-eq_default s 0 r, ← h, drop_all (i + 1) s far, take-nil n)

pub marks-raw : (s : List ℕ) (k n from : ℕ) → from ≡ min (ahead s k) (length s)
    → list_any is_mark (take (min n (length (take (length s - from) (drop from s)))) (take (length s - from) (drop from s))) ≡ has_mark (bytes_at n s (k + 1))
marks-raw s k n from e =
    let all : take (length s - from) (drop from s) ≡ drop from s = take_all _ _ (omega (arith, length-drop from s)) in
    rw (all, take_min, bytes-ahead n s k, ← (marks n s (ahead s k)), from-ahead)
  where
    from-ahead : drop from s ≡ drop (ahead s k) s
    from-ahead = go (dec_lt (ahead s k) (length s))
      where
        go : Dec (ahead s k < length s) → drop from s ≡ drop (ahead s k) s
        go (yes p) = let f : from ≡ ahead s k = omega arith in rw f
        go (no q) = rw (drop_all from s (omega arith), drop_all (ahead s k) s (omega arith))

-- ---- more than one member

pub turned : (a b : Bool) → b ≡ not a → a ≡ not b
turned true b e = rw e
turned false b e = rw e

pub single-short : (n : ℕ) → n < 2 → (s : List ℕ) (step : Option Member) → single (members_from n s step) ≡ true
unfolding members_from single
single-short zero h s step = refl
single-short (suc zero) h s (Some m) = refl
single-short (suc zero) h s None = refl
single-short (suc (suc n)) h s step = absurd (omega arith)

pub single-two : (n : ℕ) → 2 ≤ n → (s : List ℕ) (m : Member) → single (members_from n s (Some m)) ≡ is_none (next_member_at s m.after)
unfolding members_from single
single-two zero h s m = absurd (omega arith)
single-two (suc zero) h s m = absurd (omega arith)
single-two (suc (suc n)) h s m = second (next_member_at s m.after)
  where
    second : (step : Option Member) → single (m ∷ members_from (suc n) s step) ≡ is_none step
    second (Some next) = refl
    second None = refl

module _ (s : List ℕ) (at : ℕ) (step : Option Member) (p : step ≡ first_member_at s at) where
  pub alone-two : 2 ≤ length s → (m : Member) → step ≡ Some m → (next : Option Member) → next ≡ next_member_at s m.after
      → is_none next ≡ single (members_of s at)
  unfolding members_of
  alone-two h m e next q =
      ap is_none q ∙ sym (single-two (length s) h s m) ∙ ap (λ (x : Option Member). single (members_from (length s) s x)) (sym e ∙ p)

  pub alone-none : step ≡ None → true ≡ single (members_of s at)
  unfolding members_of single
  alone-none e =
      ap single (sym (members-end (length s) s)) ∙ ap (λ (x : Option Member). single (members_from (length s) s x)) (sym e ∙ p)

pub alone-short : (s : List ℕ) (at : ℕ) → length s < 2 → true ≡ single (members_of s at)
unfolding members_of
alone-short s at h = sym (single-short (length s) h s (first_member_at s at))
