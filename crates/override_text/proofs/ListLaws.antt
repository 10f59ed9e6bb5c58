-- The overrides as lists: one turn of the loop that fills the slices, its end, and what stands at a place of the lists.
use Rattle.std.specs.Prelude as std
use Rattle.std.specs.Prelude.{if◌then◌else◌, Some, None}
use Prim.Native.Nat.{ℕ, zero, suc, ◌+◌, ◌-◌, ◌<◌, ◌≤◌, min}
use mathlib.Core.Bool.{Bool, true, false}
use mathlib.Core.List.{List, [], ◌∷◌, map}
use mathlib.Core.Option.{Option, none, some}
use mathlib.Core.Path.{◌≡◌, refl, sym, ap, ◌∙◌, subst}
use native.Mathlib.Numerals.{add-one}
use native.Mathlib.Omega.{arith}
use native.Mathlib.Decide.{dec_lt}
use Rattle.std.proofs.Math.Nat.{sub-zero}
use lib.Dec.{eqb}
use lib.ListN.{length, get_or, set, take, length-set, length-map}
use lib.Seq.{sets, take-nil}
use Rattle.json_text.specs.Bytes.{byte}
use Rattle.json_walk.specs.Strings.{raw_at}
use Rattle.json_walk.specs.Walk.{first_member_at, next_member_at, members_from, members_of}
use Rattle.json_walk.specs.declared.Member.{Member}
use Rattle.json_tree.specs.Tree.{Fields, fields_of, tree_at, place_of}
use Rattle.event.specs.Types.{Details, Override}
use Rattle.event.specs.Values.{object}
use Rattle.event.specs.Reading.{Reading, Judged, inside, limited}
use Rattle.event.specs.Properties.{date_time}
use Rattle.event.specs.Overrides.{override_of, overrides_in, patch_in, read_overrides}
use Rattle.property.specs.Inner.Words.{word_at}
use Rattle.override_text.specs.Inner.Entries.{entries_in}
use Rattle.override_text.specs.Inner.Lists.{Filled, places_of, places_at}
use Rattle.override_text.specs.Inner.Patched.{patch_at}
use Rattle.override_text.proofs.EntryLaws.{Named, named-first, named-next, entries-many, overrides-yes, overrides-no}
use Rattle.override_text.proofs.WalkLaws.{members-last, members-next, members-over}

-- ---- a list that is written element by element: what is left to be stored makes of the slice what the whole would have made of it at entry

abbrev pub Kept : {A : Type 0} → (Member → A) → List Member → List Member → ℕ → List A → List A → Type 0
Kept f all left k now was = sets now k (take (256 - k) (map f left)) ≡ sets was 0 (take 256 (map f all))

module _ {A : Type 0} (f : Member → A) (all : List Member) (k : ℕ) (now was : List A) where
  pub kept_next : k < 256 → (left : List Member) → Kept f all left k now was → (m : Member) (rest : List Member) → left ≡ m ∷ rest → (v : A) → v ≡ f m
      → Kept f all rest (k + 1) (set now k v) was
  kept_next h left w m rest e v p =
      let room : 256 - k ≡ suc (256 - (k + 1)) = omega arith in
      (λ i. sets (set now k (p i)) (add-one k i) (take (256 - (k + 1)) (map f rest)))
      ∙ sym (ap (λ (j : ℕ). sets now k (take j (f m ∷ map f rest))) room)
      ∙ ap (λ (ms : List Member). sets now k (take (256 - k) (map f ms))) (sym e)
      ∙ w

  pub kept-end : (left : List Member) → Kept f all left k now was → left ≡ [] → now ≡ sets was 0 (take 256 (map f all))
  kept-end left w e =
      ap (λ (vs : List A). sets now k vs) (sym (take-nil (256 - k)))
      ∙ ap (λ (ms : List Member). sets now k (take (256 - k) (map f ms))) (sym e)
      ∙ w

  pub kept_full : (left : List Member) → Kept f all left k now was → k ≡ 256 → now ≡ sets was 0 (take 256 (map f all))
  kept_full left w e =
      let room : 256 - k ≡ 0 = omega arith in
      sym (ap (λ (j : ℕ). sets now k (take j (map f left))) room) ∙ w

-- the number that is written
abbrev pub Counted : List Member → List Member → ℕ → Type 0
Counted all left k = k + length (take (256 - k) left) ≡ length (take 256 all)

module _ (all : List Member) (k : ℕ) (left : List Member) (w : Counted all left k) where
  pub count_next : k < 256 → (m : Member) (rest : List Member) → left ≡ m ∷ rest → Counted all rest (k + 1)
  count_next h m rest e =
      let room : 256 - k ≡ suc (256 - (k + 1)) = omega arith in
      let one : length (take (256 - k) left) ≡ suc (length (take (256 - (k + 1)) rest)) =
      ap (λ (ms : List Member). length (take (256 - k) ms)) e ∙ ap (λ (j : ℕ). length (take j (m ∷ rest))) room in
      omega (arith, one, w)

  pub count-end : left ≡ [] → k ≡ length (take 256 all)
  count-end e =
      let none : length (take (256 - k) left) ≡ 0 = ap (λ (ms : List Member). length (take (256 - k) ms)) e ∙ ap length (take-nil (256 - k)) in
      omega (arith, none, w)

  pub count-full : k ≡ 256 → k ≡ length (take 256 all)
  count-full e =
      let room : 256 - k ≡ 0 = omega arith in
      let none : length (take (256 - k) left) ≡ 0 = ap (λ (j : ℕ). length (take j left)) room in
      omega (arith, none, w)

-- ---- what is written for a member

abbrev pub id_of : List ℕ → Member → ℕ
id_of s m = (date_time (raw_at s m.name m.stop)).value

abbrev pub entry_of : ℕ → Details → List ℕ → Member → Override
entry_of l own s m = (override_of own m.name (raw_at s m.name m.stop) (tree_at (suc l) s m.value)).value

abbrev pub gone_of : ℕ → Details → List ℕ → Member → Bool
gone_of l own s m = (entry_of l own s m).excluded

same_id : (own : Details) (id at : ℕ) (o : Option Fields) → (inside (record { id = id; excluded = false; details = own }) at (patch_in own id at) o).value.id ≡ id
unfolding inside patch_in
same_id own id at none = refl
same_id own id at (some fields) = refl

module _ (l : ℕ) (own : Details) (s : List ℕ) where
  entry-id : (m : Member) → (entry_of l own s m).id ≡ id_of s m
  unfolding override_of
  entry-id m = let v = tree_at (suc l) s m.value in same_id own (id_of s m) (place_of v) (object v)

  pub entries-ids : (ms : List Member) → map (λ (o : Override). o.id) (entries_in l own s ms).value ≡ map (id_of s) ms
  unfolding entries_in overrides_in fields_of
  entries-ids [] = refl
  entries-ids (m ∷ ms) = λ i. entry-id m i ∷ entries-ids ms i

  pub entries-gone : (ms : List Member) → map (λ (o : Override). o.excluded) (entries_in l own s ms).value ≡ map (gone_of l own s) ms
  unfolding entries_in overrides_in fields_of
  entries-gone [] = refl
  entries-gone (m ∷ ms) = ap (λ (bs : List Bool). gone_of l own s m ∷ bs) (entries-gone ms)

  pub entries-taken : (n : ℕ) (ms : List Member) → length (take n (entries_in l own s ms).value) ≡ length (take n ms)
  unfolding entries_in overrides_in fields_of
  entries-taken zero ms = refl
  entries-taken (suc n) [] = refl
  entries-taken (suc n) (m ∷ ms) = ap suc (entries-taken n ms)

  -- the override at place k: the patch at that place of the lists, of the id there
  pub entry_at : (ms : List Member) (k : ℕ) → k < length ms → (d : Override)
      → get_or (entries_in l own s ms).value k d ≡ (patch_at l own (get_or (map (id_of s) ms) k 0) s (get_or (places_of ms) k 0)).value
  unfolding entries_in overrides_in fields_of override_of
  entry_at [] k h d = absurd (omega arith)
  entry_at (m ∷ ms) zero h d = refl
  entry_at (m ∷ ms) (suc k) h d = entry_at ms k (omega arith) d

-- ---- the loop that fills the slices

module _ (s : List ℕ) (at : ℕ) (ids₀ : List ℕ) (gone₀ : List Bool) (places₀ : List ℕ) where
  pub record Filling (ids : List ℕ) (gone : List Bool) (places : List ℕ) (step : std.Option Member) (k : ℕ) : Type 0 where
    pub low : k ≤ 256
    pub named : Named s step
    pub ids-long : length ids ≡ length ids₀
    pub gone_long : length gone ≡ length gone₀
    pub places-long : length places ≡ length places₀
    pub count : Counted (members_of s at) (members_from (length s - k) s step) k
    pub ids-kept : Kept (id_of s) (members_of s at) (members_from (length s - k) s step) k ids ids₀
    pub gone-kept : (l : ℕ) (own : Details) → Kept (gone_of l own s) (members_of s at) (members_from (length s - k) s step) k gone gone₀
    pub places-kept : Kept (λ (m : Member). m.value) (members_of s at) (members_from (length s - k) s step) k places places₀

  pub filling-start : (step : std.Option Member) → step ≡ first_member_at s at → Filling ids₀ gone₀ places₀ step 0
  unfolding members_of
  filling-start step e =
      let all : members_from (length s - 0) s step ≡ members_from (length s) s (first_member_at s at) = rw (sub-zero (length s), e) in
      let c : length (take 256 (members_from (length s - 0) s step)) ≡ length (take 256 (members_from (length s) s (first_member_at s at))) =
      ap (λ (ms : List Member). length (take 256 ms)) all in
      record {
        low = omega arith;
        named = subst (λ (x : std.Option Member). Named s x) (sym e) (named-first s at);
        ids-long = refl;
        gone_long = refl;
        places-long = refl;
        count = omega (arith, c);
        ids-kept = ap (λ (ms : List Member). sets ids₀ 0 (take 256 (map (id_of s) ms))) all;
        gone-kept = λ l own. ap (λ (ms : List Member). sets gone₀ 0 (take 256 (map (gone_of l own s) ms))) all;
        places-kept = ap (λ (ms : List Member). sets places₀ 0 (take 256 (places_of ms))) all;
      }

  module _ (ids : List ℕ) (gone : List Bool) (places : List ℕ) (step : std.Option Member) (k : ℕ) (w : Filling ids gone places step k) where
    pub filling-next : k < length s → k < 256 → (m : Member) → step ≡ Some m → (id : Reading ℕ) → id ≡ date_time (word_at s m.name)
        → (g : Bool) → ((l : ℕ) (own : Details) (x : ℕ) → g ≡ (patch_at l own x s m.value).value.excluded)
        → (next : std.Option Member) → next ≡ next_member_at s m.after
        → Filling (set ids k id.value) (set gone k g) (set places k m.value) next (k + 1)
    unfolding override_of
    filling-next h below m e id i g j next p =
        let same : raw_at s m.name m.stop ≡ word_at s m.name = subst (λ (x : std.Option Member). Named s x) e w.named in
        let one : members_from (length s - k) s step ≡ m ∷ members_from (length s - (k + 1)) s next = members-next s k h step m e next p in
        record {
          low = omega (arith, below);
          named = subst (λ (x : std.Option Member). Named s x) (sym p) (named-next s m.after);
          ids-long = length-set ids k id.value ∙ w.ids-long;
          gone_long = length-set gone k g ∙ w.gone_long;
          places-long = length-set places k m.value ∙ w.places-long;
          count = count_next (members_of s at) k (members_from (length s - k) s step) w.count below m (members_from (length s - (k + 1)) s next) one;
          ids-kept =
              kept_next (id_of s) (members_of s at) k ids ids₀ below (members_from (length s - k) s step) w.ids-kept m (members_from (length s - (k + 1)) s next) one id.value
              (ap (λ (r : Reading ℕ). r.value) (i ∙ ap date_time (sym same)));
          gone-kept =
              λ l own. kept_next (gone_of l own s) (members_of s at) k gone gone₀ below (members_from (length s - k) s step) (w.gone-kept l own) m (members_from (length s - (k + 1)) s next) one g
              (j l own (id_of s m));
          places-kept =
              kept_next (λ (x : Member). x.value) (members_of s at) k places places₀ below (members_from (length s - k) s step) w.places-kept m (members_from (length s - (k + 1)) s next) one m.value refl;
        }

    filled : (l : ℕ) (own : Details) → k ≡ length (take 256 (members_of s at))
        → ids ≡ sets ids₀ 0 (take 256 (map (id_of s) (members_of s at)))
        → gone ≡ sets gone₀ 0 (take 256 (map (gone_of l own s) (members_of s at)))
        → places ≡ sets places₀ 0 (take 256 (places_of (members_of s at)))
        → Filled (entries_in l own s (members_of s at)).value (places_of (members_of s at)) ids₀ ids gone₀ gone places₀ places k
    filled l own a b c d =
        record {
          count = a ∙ sym (entries-taken l own s 256 (members_of s at));
          ids = b ∙ ap (λ (vs : List ℕ). sets ids₀ 0 (take 256 vs)) (sym (entries-ids l own s (members_of s at)));
          gone = c ∙ ap (λ (vs : List Bool). sets gone₀ 0 (take 256 vs)) (sym (entries-gone l own s (members_of s at)));
          places = d;
        }

    ended : members_from (length s - k) s step ≡ [] → (l : ℕ) (own : Details)
        → Filled (entries_in l own s (members_of s at)).value (places_of (members_of s at)) ids₀ ids gone₀ gone places₀ places k
    ended e l own =
        filled l own (count-end (members_of s at) k (members_from (length s - k) s step) w.count e)
        (kept-end (id_of s) (members_of s at) k ids ids₀ (members_from (length s - k) s step) w.ids-kept e)
        (kept-end (gone_of l own s) (members_of s at) k gone gone₀ (members_from (length s - k) s step) (w.gone-kept l own) e)
        (kept-end (λ (x : Member). x.value) (members_of s at) k places places₀ (members_from (length s - k) s step) w.places-kept e)

    pub filled-end : step ≡ None → (l : ℕ) (own : Details)
        → Filled (entries_in l own s (members_of s at)).value (places_of (members_of s at)) ids₀ ids gone₀ gone places₀ places k
    filled-end e = ended (members-last s k step e)

    -- All bytes or 256 members were gone through.
    pub filled-out : (most : ℕ) → most ≡ min (length s) 256 → k ≤ most → most ≤ k → (l : ℕ) (own : Details)
        → Filled (entries_in l own s (members_of s at)).value (places_of (members_of s at)) ids₀ ids gone₀ gone places₀ places most
    filled-out most p i h l own = let same : most ≡ k = omega arith in rw same (go (dec_lt k 256))
      where
        go : Dec (k < 256) → Filled (entries_in l own s (members_of s at)).value (places_of (members_of s at)) ids₀ ids gone₀ gone places₀ places k
        go (yes few) = ended (members-over s k (omega arith) step) l own
        go (no many) =
            let e : k ≡ 256 = omega (arith, w.low) in
            filled l own (count-full (members_of s at) k (members_from (length s - k) s step) w.count e)
            (kept_full (id_of s) (members_of s at) k ids ids₀ (members_from (length s - k) s step) w.ids-kept e)
            (kept_full (gone_of l own s) (members_of s at) k gone gone₀ (members_from (length s - k) s step) (w.gone-kept l own) e)
            (kept_full (λ (x : Member). x.value) (members_of s at) k places places₀ (members_from (length s - k) s step) w.places-kept e)

-- ---- the value as a whole

module _ (s : List ℕ) (at : ℕ) (ids₀ ids : List ℕ) (gone₀ gone : List Bool) (places₀ places : List ℕ) (r l : ℕ) (own : Details) where
  pub filled-yes : eqb (byte s at) 0x7B ≡ true
      → Filled (entries_in l own s (members_of s at)).value (places_of (members_of s at)) ids₀ ids gone₀ gone places₀ places r
      → Filled (read_overrides own (tree_at (suc (suc l)) s at)).value (places_at s at) ids₀ ids gone₀ gone places₀ places r
  unfolding limited places_at
  filled-yes e w =
      subst (λ (os : List Override). Filled os (places_at s at) ids₀ ids gone₀ gone places₀ places r)
      (ap (λ (x : Judged (List Override)). x.value) (overrides-yes own s at e l))
      (rw e w)

pub filled-no : (s : List ℕ) (at : ℕ) (ids : List ℕ) (gone : List Bool) (places : List ℕ) (l : ℕ) (own : Details) → eqb (byte s at) 0x7B ≡ false
    → Filled (read_overrides own (tree_at (suc (suc l)) s at)).value (places_at s at) ids ids gone gone places places 0
unfolding places_at
filled-no s at ids gone places l own e =
    subst (λ (os : List Override). Filled os (places_at s at) ids ids gone gone places places 0)
    (ap (λ (x : Judged (List Override)). x.value) (overrides-no own s at e l))
    (rw e (record { count = refl; ids = refl; gone = refl; places = refl }))

-- ---- the override at place k of an accepted value: the patch at that place of the lists, of the id there

-- a law of the overrides and the places of a value holds where it holds of an object's members, and of no overrides
either : (P : List Override → List ℕ → Type 0) (s : List ℕ) (at l : ℕ) (own : Details)
    → P (entries_in l own s (members_of s at)).value (places_of (members_of s at)) → P [] []
    → P (read_overrides own (tree_at (suc (suc l)) s at)).value (places_at s at)
unfolding limited places_at
either P s at l own full empty = go (eqb (byte s at) 0x7B) refl
  where
    go : (c : Bool) → eqb (byte s at) 0x7B ≡ c → P (read_overrides own (tree_at (suc (suc l)) s at)).value (if c then places_of (members_of s at) else [])
    go true e =
        subst (λ (os : List Override). P os (places_of (members_of s at)))
        (ap (λ (x : Judged (List Override)). x.value) (overrides-yes own s at e l)) full
    go false e =
        subst (λ (os : List Override). P os [])
        (ap (λ (x : Judged (List Override)). x.value) (overrides-no own s at e l)) empty

module _ (s : List ℕ) (at l : ℕ) (own : Details) where
  pub places-many : length (places_at s at) ≡ length (read_overrides own (tree_at (suc (suc l)) s at)).value
  places-many =
      either (λ (os : List Override) (ps : List ℕ). length ps ≡ length os) s at l own
      (length-map (members_of s at) (λ (m : Member). m.value) ∙ sym (entries-many l own s (members_of s at))) refl

  pub override-at : (k : ℕ) → k < length (places_at s at) → (d : Override)
      → get_or (read_overrides own (tree_at (suc (suc l)) s at)).value k d
      ≡ (patch_at l own (get_or (map (λ (o : Override). o.id) (read_overrides own (tree_at (suc (suc l)) s at)).value) k 0) s (get_or (places_at s at) k 0)).value
  override-at k =
      either (λ (os : List Override) (ps : List ℕ). k < length ps → (d : Override)
      → get_or os k d ≡ (patch_at l own (get_or (map (λ (o : Override). o.id) os) k 0) s (get_or ps k 0)).value) s at l own
      (λ h d. entry_at l own s (members_of s at) k (omega (arith, h, length-map (members_of s at) (λ (m : Member). m.value))) d
      ∙ ap (λ (xs : List ℕ). (patch_at l own (get_or xs k 0) s (get_or (places_of (members_of s at)) k 0)).value) (sym (entries-ids l own s (members_of s at))))
      (λ h d. absurd (omega (arith, h)))
