-- The filling of a row, member by member.
use Rattle.std.specs.Prelude.{if◌then◌else◌, unwrap_or, Some, None, Result, Ok, Err, Option}
use Prim.Native.Nat.{ℕ, zero, suc, ◌+◌, ◌-◌, ◌≤◌, ◌<◌}
use mathlib.Core.Bool.{Bool, true, false}
use mathlib.Core.List.{List, []}
use mathlib.Core.Option.{none, some}
use mathlib.Core.Path.{◌≡◌, refl, ap, sym, subst, ◌∙◌}
use native.Mathlib.Omega.{arith}
use Rattle.std.proofs.Math.Nat.{sub-zero}
use lib.Dec.{eqb, eqb-suc-zero}
use lib.ListN.{length, get_or, set, length-set, replicate}
use lib.Seq.{get_or-set_same, get_or-set_other, set_out}
use borrow.Author.Tests.{eqb-true, eqb-false}
use Rattle.json_text.specs.Bytes.{byte, past, space_at}
use Rattle.json_text.specs.Strings.{string_at}
use Rattle.json_text.specs.declared.SyntaxError.{SyntaxError}
use Rattle.json_text.specs.declared.SyntaxError.TheVariants.{Malformed}
use Rattle.json_value.specs.Values.{first_at, after_at, colon_at, value_at, levels}
use Rattle.json_value.specs.declared.Item.{Item}
use Rattle.json_value.specs.declared.Item.TheVariants.{More, Done}
use Rattle.json_walk.proofs.Walks.{members-turn}
use Rattle.json_walk.specs.Walk.{member_to, member_more, member_at, first_member_at, next_member_at, members_from, members_of}
use Rattle.json_walk.specs.declared.Member.{Member}
use Rattle.json_tree.specs.Inner.Members.{find_in}
use Rattle.json_tree.specs.Tree.{fields_of, tree_at}
use Rattle.event.specs.Reading.{place_in}
use Rattle.event.specs.Values.{member}
use Rattle.json_tree.proofs.Trees.{place-tree}
use Rattle.property.proofs.Fields.{found_in, member-tree}
use Rattle.property.proofs.Vocabularies.{number-says}
use Rattle.property.specs.Inner.From.{value_in, fields_in}
use Rattle.property.specs.Inner.Rows.{placed, spot, Blank, Row, RowTo, noted}
use Rattle.property.specs.Inner.Vocabulary.{word_of, number_at}
use Rattle.property.specs.Inner.Place.{Place}

-- A value stands after its name and its colon, so never at 0.
abbrev pub Later : Option Member → Type 0
Later (Some m) = 0 < m.value
Later None = Unit {0}

later-to : (r : Result ℕ SyntaxError) (f : ℕ → Option Member) → ((j : ℕ) → r ≡ Ok j → Later (f j)) → Later (member_to r f)
later-to (Ok j) f h = h j refl
later-to (Err e) f h = tt

later_more : (r : Result Item SyntaxError) (f : ℕ → Option Member) → ((k : ℕ) → Later (f k)) → Later (member_more r f)
later_more (Ok (More k)) f h = h k
later_more (Ok (Done e)) f h = tt
later_more (Err e) f h = tt

colon-later : (s : List ℕ) (j v : ℕ) → colon_at s j ≡ Ok v → 0 < v
unfolding colon_at space_at past
colon-later s j v = go (eqb (byte s (space_at s j)) 0x3A)
  where
    go : (b : Bool) → ◌≡◌ {A = Result ℕ SyntaxError} (if b then Ok (space_at s (space_at s j + 1)) else Err Malformed) (Ok v) → 0 < v
    go true e = let q : space_at s (space_at s j + 1) ≡ v = cc in omega arith
    go false e = let z : ◌≡◌ {A = ℕ} 0 1 = cc in absurd (omega arith)

member-later : (s : List ℕ) (k : ℕ) → Later (member_at s k)
unfolding member_at
member-later s k =
    later-to (string_at s k) _ (λ j p. later-to (colon_at s j) _ (λ v q. later-to (value_at levels s v) _ (λ e r. colon-later s j v q)))

pub first-later : (s : List ℕ) (i : ℕ) → Later (first_member_at s i)
unfolding first_member_at
first-later s i = later_more (Ok (first_at 0x7D s (i + 1))) _ (λ k. member-later s k)

pub next-later : (s : List ℕ) (i : ℕ) → Later (next_member_at s i)
unfolding next_member_at
next-later s i = later_more (after_at 0x7D s i) _ (λ k. member-later s k)

-- What the row says, or else what the members to come say.
abbrev pub or_else : Place → Place → Place
or_else None p = p
or_else (Some i) p = Some i

or-none : (p : Place) → or_else p None ≡ p
or-none None = refl
or-none (Some i) = refl

length-noted : (row : List ℕ) (r v : ℕ) → length (noted row r v) ≡ length row
unfolding noted
length-noted row r v = go (eqb (get_or row r 0) 0)
  where
    go : (b : Bool) → length (if b then set row r v else row) ≡ length row
    go true = length-set row r v
    go false = refl

pub noted-out : (row : List ℕ) (r v : ℕ) → length row ≤ r → row ≡ noted row r v
unfolding noted
noted-out row r v h = go (eqb (get_or row r 0) 0)
  where
    go : (b : Bool) → row ≡ (if b then set row r v else row)
    go true = sym (set_out row r v h)
    go false = refl

-- One member: it is noted under its own number, where that is free.
noted_other : (row : List ℕ) (r w v : ℕ) → (w ≡ r → ⊥) → get_or (noted row r v) w 0 ≡ get_or row w 0
unfolding noted
noted_other row r w v h = go (eqb (get_or row r 0) 0)
  where
    go : (b : Bool) → get_or (if b then set row r v else row) w 0 ≡ get_or row w 0
    go true = get_or-set_other row r w v 0 h
    go false = refl

noted-same : (row : List ℕ) (w : ℕ) (m : Member) (rest : Place) → w < length row → 0 < m.value
    → or_else (spot (get_or (noted row w m.value) w 0)) rest ≡ or_else (spot (get_or row w 0)) (Some m.value)
unfolding noted
noted-same row w m rest h p = go (get_or row w 0) refl
  where
    filled : (v : ℕ) → 0 < v → or_else (spot v) rest ≡ Some v
    filled zero q = absurd (omega arith)
    filled (suc v) q = refl

    go : (g : ℕ) → get_or row w 0 ≡ g → or_else (spot (get_or (if eqb g 0 then set row w m.value else row) w 0)) rest ≡ or_else (spot g) (Some m.value)
    go zero e = rw (get_or-set_same row w m.value 0 h) (filled m.value p)
    go (suc g) e = rw (eqb-suc-zero g, e)

turn : (row : List ℕ) (r w : ℕ) (m : Member) (rest : Option Member) → w < length row → 0 < m.value
    → or_else (spot (get_or (noted row r m.value) w 0)) (placed rest) ≡ or_else (spot (get_or row w 0)) (placed (if eqb r w then Some m else rest))
turn row r w m rest h p = go (eqb r w) refl
  where
    go : (b : Bool) → eqb r w ≡ b → or_else (spot (get_or (noted row r m.value) w 0)) (placed rest) ≡ or_else (spot (get_or row w 0)) (placed (if b then Some m else rest))
    go true e = let f : r ≡ w = eqb-true r w e in rw f (noted-same row w m (placed rest) h p)
    go false e = rw (noted_other row r w m.value (λ f. eqb-false r w e (sym f)))

-- What holds at each turn: the row, or else the members to come, say what all members say.
pub record Filling (s : List ℕ) (at size n : ℕ) (step : Option Member) (row : List ℕ) : Type 0 where
  pub long : length row ≡ size
  pub later : Later step
  pub says : (w : ℕ) → w < size → or_else (spot (get_or row w 0)) (placed (find_in s (word_of w) (members_from n s step))) ≡ placed (find_in s (word_of w) (members_of s at))

pub filling-start : (s : List ℕ) (at : ℕ) (step : Option Member) (row : List ℕ) → Blank row → step ≡ first_member_at s at → Filling s at (length row) (length s - 0) step row
unfolding Blank members_of
filling-start s at step row blank e =
    record { long = refl; later = rw e (first-later s at); says = λ w h. rw (blank w, e, sub-zero (length s)) }

pub filling-next : {s : List ℕ} {at size n k r : ℕ} {step step' : Option Member} {row row' : List ℕ} {m : Member}
    → size ≤ 34 → k < n → step ≡ Some m → r ≡ number_at s m.name m.stop → row' ≡ noted row r m.value → step' ≡ next_member_at s m.after
    → Filling s at size (n - k) step row → Filling s at size (n - (k + 1)) step' row'
unfolding find_in
filling-next {s} {at} {size} {n} {k} {r} {step} {step'} {row} {row'} {m} small more one number put next f =
    record { long = rw (put, length-noted row r m.value) f.long; later = rw next (next-later s m.after); says = says }
  where
    says : (w : ℕ) → w < size → or_else (spot (get_or row' w 0)) (placed (find_in s (word_of w) (members_from (n - (k + 1)) s step'))) ≡ placed (find_in s (word_of w) (members_of s at))
    says w h =
        let inside : w < length row = omega (arith, f.long) in
        let within : w < 34 = omega arith in
        let here : 0 < m.value = subst Later one f.later in
        let rest = find_in s (word_of w) (members_from (n - (k + 1)) s (next_member_at s m.after)) in
        let all : find_in s (word_of w) (members_from (n - k) s step) ≡ (if eqb r w then Some m else rest) =
        rw (one, members-turn n k more s m, number-says s m.name m.stop w within, number) in
        rw (put, next, turn row r w m rest inside here, ← all) (f.says w h)

pub filling-end : {s : List ℕ} {at size n : ℕ} {step : Option Member} {row : List ℕ} → Filling s at size n step row → members_from n s step ≡ [] → RowTo size s at row
unfolding Row find_in
filling-end {s} {at} {size} {n} {step} {row} f over =
    ((λ w h. let inside : w < size = omega (arith, f.long) in sym (or-none (spot (get_or row w 0))) ∙ (rw over at (f.says w inside))), omega (arith, f.long))

-- What a row says at one number.
module _ (s : List ℕ) (at : ℕ) (row : List ℕ) (r : Row s at row) (w : ℕ) (h : w < length row) where
  pub says_none : get_or row w 0 ≡ 0 → None ≡ placed (find_in s (word_of w) (members_of s at))
  unfolding Row
  says_none e = rw e at (r w h)

  pub says_at : (get_or row w 0 ≡ 0 → ⊥) → Some (get_or row w 0) ≡ placed (find_in s (word_of w) (members_of s at))
  unfolding Row
  says_at n = go (get_or row w 0) n ∙ r w h
    where
      go : (i : ℕ) → (i ≡ 0 → ⊥) → Some i ≡ spot i
      go zero q = absurd (q refl)
      go (suc i) q = refl

-- A member by its place is the tree's.
pub member-place : (l : ℕ) (s name : List ℕ) (ms : List Member) → member name (fields_of (λ v. tree_at l s v) s ms) ≡ value_in l s (placed (find_in s name ms))
member-place l s name ms = rw (member-tree l s name ms) (go (find_in s name ms))
  where
    go : (f : Option Member) → found_in l s f ≡ value_in l s (placed f)
    go (Some m) = refl
    go None = refl

module _ (s name : List ℕ) (at : ℕ) (f : Place) (p : f ≡ placed (find_in s name (members_of s at))) where
  pub value : (l : ℕ) → value_in l s f ≡ member name (fields_in l s at)
  value l = ap (value_in l s) p ∙ sym (member-place l s name (members_of s at))

  pub here : (i : ℕ) → f ≡ Some i → (l : ℕ) → member name (fields_in l s at) ≡ some (tree_at l s i)
  here i q l = sym (value l) ∙ ap (value_in l s) q

  pub missing : f ≡ None → (l : ℕ) → member name (fields_in l s at) ≡ none
  missing q l = sym (value l) ∙ ap (value_in l s) q

  -- Where the member's value stands, or else the object.
  pub place-or : (l : ℕ) → unwrap_or f at ≡ place_in at (member name (fields_in l s at))
  unfolding place_in
  place-or l = go f ∙ ap (place_in at) (value l)
    where
      go : (p : Place) → unwrap_or p at ≡ place_in at (value_in l s p)
      go None = refl
      go (Some i) = sym (place-tree l s i)

-- A row of zeros is blank.
zero-at : (n w : ℕ) → ◌≡◌ {A = ℕ} (get_or (replicate n 0) w 0) 0
zero-at zero w = refl
zero-at (suc n) zero = refl
zero-at (suc n) (suc w) = zero-at n w

pub zeros : (n : ℕ) → Blank (replicate n 0)
unfolding Blank
zeros n w = zero-at n w
