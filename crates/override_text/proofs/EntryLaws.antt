-- The overrides of a walk: one turn of the loop over the members, and its end.
use Rattle.std.specs.Prelude.{if◌then◌else◌, None, Result, Ok, Err, Option, Some}
use Prim.Native.Nat.{ℕ, suc, ◌+◌, ◌-◌, ◌<◌, ◌≤◌}
use mathlib.Core.Bool.{true, false}
use mathlib.Core.List.{List, [], ◌∷◌}
use mathlib.Core.Path.{◌≡◌, refl, sym, ap, ◌∙◌, subst}
use native.Mathlib.Omega.{arith}
use Rattle.std.proofs.Math.Nat.{sub-zero}
use lib.Dec.{eqb, ltb}
use lib.ListN.{length}
use Rattle.fault.specs.Fault.{faults_at, lower, first, First}
use Rattle.fault.proofs.Laws.{first-append}
use Rattle.json_text.specs.Bytes.{byte}
use Rattle.json_text.specs.Strings.{string_at}
use Rattle.json_text.specs.declared.SyntaxError.{SyntaxError}
use Rattle.json_value.specs.Values.{after_at, first_at, colon_at, value_at, levels}
use Rattle.json_value.specs.declared.Item.{Item}
use Rattle.json_value.specs.declared.Item.TheVariants.{More, Done}
use Rattle.json_walk.specs.Strings.{raw_at}
use Rattle.json_walk.specs.Walk.{member_to, member_more, member_at, first_member_at, next_member_at, members_from, members_of}
use Rattle.json_walk.specs.declared.Member.{Member}
use Rattle.json_tree.specs.Tree.{Fields, fields_of, tree_at, end_of}
use Rattle.event.specs.Types.{Details}
use Rattle.event.specs.Reading.{Reading, faulty, limited}
use Rattle.event.specs.Properties.{date_time}
use Rattle.event.specs.Overrides.{override_of, overrides_in, read_overrides}
use Rattle.property.specs.Inner.Words.{word_at}
use Rattle.override_text.specs.Inner.Patched.{patch_at}
use Rattle.override_text.specs.Inner.Entries.{entries_in}
use Rattle.override_text.specs.Inner.Names.{lowest}
use Rattle.override_text.proofs.PatchLaws.{at-object, at_other}
use Rattle.override_text.proofs.WalkLaws.{members-last, members-next, members-over, Left, left-start, left-next, left_end, left_out}

-- ---- one override

pub entry-joined : (own : Details) (s : List ℕ) (name value l : ℕ) (id : Reading ℕ) (over n r : First)
    → id ≡ date_time (word_at s name) → over ≡ first (patch_at l own id.value s value).faults → n ≡ first (faults_at id.fault name) → r ≡ lower n over
    → r ≡ first (override_of own name (word_at s name) (tree_at (suc l) s value)).faults
unfolding override_of
entry-joined own s name value l id over n r e f h g =
    g
    ∙ (λ i. lower (h i) (f i))
    ∙ ap (λ (d : Reading ℕ). lower (first (faults_at d.fault name)) (first (patch_at l own d.value s value).faults)) e
    ∙ sym (first-append _ _)

-- ---- the name of a member of a walk is the string at its place

abbrev pub Named : List ℕ → Option Member → Type 0
Named s (Some m) = raw_at s m.name m.stop ≡ word_at s m.name
Named s None = Unit {0}

module _ (s : List ℕ) where
  named_value : (k j v : ℕ) → raw_at s k j ≡ word_at s k → (r : Result ℕ SyntaxError) → Named s (member_to r (λ e. Some (record { name = k; stop = j; value = v; after = e })))
  named_value k j v h (Ok e) = h
  named_value k j v h (Err e) = tt

  named-colon : (k j : ℕ) → raw_at s k j ≡ word_at s k → (r : Result ℕ SyntaxError)
      → Named s (member_to r (λ v. member_to (value_at levels s v) (λ e. Some (record { name = k; stop = j; value = v; after = e }))))
  named-colon k j h (Ok v) = named_value k j v h (value_at levels s v)
  named-colon k j h (Err e) = tt

  named-name : (k : ℕ) (r : Result ℕ SyntaxError) → string_at s k ≡ r
      → Named s (member_to r (λ j. member_to (colon_at s j) (λ v. member_to (value_at levels s v) (λ e. Some (record { name = k; stop = j; value = v; after = e })))))
  unfolding word_at
  named-name k (Ok j) e = named-colon k j (ap (λ (x : Result ℕ SyntaxError). raw_at s k (end_of x)) (sym e)) (colon_at s j)
  named-name k (Err x) e = tt

  pub named-member : (k : ℕ) → Named s (member_at s k)
  unfolding member_at
  named-member k = named-name k (string_at s k) refl

  named_more : (x : Result Item SyntaxError) → Named s (member_more x (λ k. member_at s k))
  named_more (Ok (More k)) = named-member k
  named_more (Ok (Done e)) = tt
  named_more (Err e) = tt

  pub named-first : (i : ℕ) → Named s (first_member_at s i)
  unfolding first_member_at
  named-first i = named_more (Ok (first_at 0x7D s (i + 1)))

  pub named-next : (i : ℕ) → Named s (next_member_at s i)
  unfolding next_member_at
  named-next i = named_more (after_at 0x7D s i)

-- ---- the overrides of members: each member's fault, and as many as members

abbrev pub of_entry : ℕ → Details → List ℕ → Member → First
of_entry l own s m = first (override_of own m.name (raw_at s m.name m.stop) (tree_at (suc l) s m.value)).faults

module _ (l : ℕ) (own : Details) (s : List ℕ) where
  pub entries-lowest : (ms : List Member) → lowest (of_entry l own s) ms ≡ first (entries_in l own s ms).faults
  unfolding lowest entries_in overrides_in fields_of first
  entries-lowest [] = refl
  entries-lowest (m ∷ ms) =
      ap (lower (of_entry l own s m)) (entries-lowest ms)
      ∙ sym (first-append (override_of own m.name (raw_at s m.name m.stop) (tree_at (suc l) s m.value)).faults (entries_in l own s ms).faults)

  pub entries-many : (ms : List Member) → length (entries_in l own s ms).value ≡ length ms
  unfolding entries_in overrides_in fields_of
  entries-many [] = refl
  entries-many (m ∷ ms) = ap suc (entries-many ms)

  -- the fault of them all, by what a walk found and counted
  pub entries-fault : (ms : List Member) (at : ℕ) (found : First) (count : ℕ) (r : First) → found ≡ lowest (of_entry l own s) ms → count ≡ length ms
      → r ≡ lower found (first (if ltb 256 count then faults_at 9 at else [])) → r ≡ first (limited 256 at (entries_in l own s ms)).faults
  unfolding limited
  entries-fault ms at found count r e c g =
      let a : found ≡ first (entries_in l own s ms).faults = e ∙ entries-lowest ms in
      let b : count ≡ length (entries_in l own s ms).value = c ∙ sym (entries-many ms) in
      g ∙ (λ i. lower (a i) (first (if ltb 256 (b i) then faults_at 9 at else []))) ∙ sym (first-append _ _)

-- ---- the walk

module _ (own : Details) (s : List ℕ) (at : ℕ) where
  pub record Walk (found : First) (step : Option Member) (count : ℕ) : Type 0 where
    pub within : count ≤ length s
    pub named : Named s step
    pub counted : count + length (members_from (length s - count) s step) ≡ length (members_of s at)
    pub faults : (l : ℕ) → Left (of_entry l own s) s at found step count

  pub walk_start : (step : Option Member) → step ≡ first_member_at s at → Walk None step 0
  unfolding members_of
  walk_start step e =
      let all : members_from (length s - 0) s step ≡ members_from (length s) s (first_member_at s at) = rw (sub-zero (length s), e) in
      let c : length (members_from (length s - 0) s step) ≡ length (members_from (length s) s (first_member_at s at)) = ap length all in
      record {
        within = omega arith;
        named = subst (λ (x : Option Member). Named s x) (sym e) (named-first s at);
        counted = omega (arith, c);
        faults = λ l. left-start (of_entry l own s) s at step e;
      }

  module _ (found : First) (step : Option Member) (count : ℕ) (w : Walk found step count) where
    pub walk-next : count < length s → (m : Member) → step ≡ Some m → (f : First) → ((l : ℕ) → f ≡ first (override_of own m.name (word_at s m.name) (tree_at (suc l) s m.value)).faults)
        → (joined : First) → joined ≡ lower found f → (next : Option Member) → next ≡ next_member_at s m.after → Walk joined next (count + 1)
    walk-next h m e f g joined q next p =
        let same : raw_at s m.name m.stop ≡ word_at s m.name = subst (λ (x : Option Member). Named s x) e w.named in
        let one : length (members_from (length s - count) s step) ≡ suc (length (members_from (length s - (count + 1)) s next)) =
        ap length (members-next s count h step m e next p) in
        record {
          within = omega arith;
          named = subst (λ (x : Option Member). Named s x) (sym p) (named-next s m.after);
          counted = omega (arith, one, w.counted);
          faults =
              λ l. left-next (of_entry l own s) s at found step count (w.faults l) h m e joined
              (q ∙ ap (lower found) (g l ∙ ap (λ (raw : List ℕ). first (override_of own m.name raw (tree_at (suc l) s m.value)).faults) (sym same))) next p;
        }

    pub walk_end : step ≡ None → (r : First) → r ≡ lower found (first (if ltb 256 count then faults_at 9 at else []))
        → (l : ℕ) → r ≡ first (limited 256 at (entries_in l own s (members_of s at))).faults
    walk_end e r g l =
        let none : length (members_from (length s - count) s step) ≡ 0 = ap length (members-last s count step e) in
        entries-fault l own s (members_of s at) at found count r (left_end (of_entry l own s) s at found step count (w.faults l) e)
        (omega (arith, none, w.counted)) g

    pub walk-out : length s ≤ count → (r : First) → r ≡ lower found (first (if ltb 256 (length s) then faults_at 9 at else []))
        → (l : ℕ) → r ≡ first (limited 256 at (entries_in l own s (members_of s at))).faults
    walk-out h r g l =
        let none : length (members_from (length s - count) s step) ≡ 0 = ap length (members-over s count h step) in
        entries-fault l own s (members_of s at) at found (length s) r (left_out (of_entry l own s) s at found step count (w.faults l) h)
        (omega (arith, none, w.counted, w.within)) g

-- ---- the value as a whole

module _ (own : Details) (s : List ℕ) (at : ℕ) where
  pub overrides-yes : eqb (byte s at) 0x7B ≡ true → (l : ℕ) → limited 256 at (entries_in l own s (members_of s at)) ≡ read_overrides own (tree_at (suc (suc l)) s at)
  unfolding read_overrides entries_in
  overrides-yes e l = at-object s at [] (λ (place : ℕ) (fields : Fields). limited 256 place (overrides_in own fields)) e (suc l)

  pub overrides-no : eqb (byte s at) 0x7B ≡ false → (l : ℕ) → faulty [] 20 at ≡ read_overrides own (tree_at (suc (suc l)) s at)
  unfolding read_overrides
  overrides-no e l = at_other s at [] (λ (place : ℕ) (fields : Fields). limited 256 place (overrides_in own fields)) e (suc l)
