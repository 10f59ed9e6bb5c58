-- Every fault of a text stands where a value or a name of the text begins.
use Prim.Native.Nat.{ℕ}
use mathlib.Core.Bool.{Bool, true, not, ◌&&◌, ◌||◌}
use mathlib.Core.List.{List, [], ◌∷◌}
use mathlib.Core.Option.{Option, none, some}
use mathlib.Core.Path.{◌≡◌, refl}
use lib.Dec.{eqb, ltb}
use lib.ListN.{length}
use borrow.Author.Tests.{eq-eqb}
use Rattle.fault.specs.declared.Fault.{Fault}
use Rattle.fault.specs.Fault.{faults_at}
use Rattle.json_text.specs.Ascii.{ascii}
use Rattle.json_walk.specs.Strings.{same}
use Rattle.json_tree.specs.Tree.{Json, Items, Fields, null_at, false_at, true_at, number_of, string_of, array_of, object_of, no_item, item, no_field, field, place_of, text_tree}
use Rattle.json_tree.specs.Finds.{look_up}
use Rattle.json_tree.specs.Begins.{begins, items_begin, fields_begin}
use Rattle.rule.proofs.Bools.{or_left, or_right}
use Rattle.rule.specs.declared.Frequency.{Frequency}
use Rattle.rule.specs.declared.Frequency.TheVariants as frequency
use Rattle.rule.specs.Written.{NDay}
use Rattle.event.specs.Types.{Details}
use Rattle.event.specs.Values.{list_of, array, object, as_option, member}
use Rattle.event.specs.Reading.{Reading, Judged, place_in, placed, entry, inside, present, unsupported, read_all, limited}
use Rattle.event.specs.Properties.{date_time}
use Rattle.event.specs.Rules.{nday_in, read_nday, entries_of, by_list, unsupported_lists, both_ends, any_nth, nth_under, rule_in, read_rule, read_rules}
use Rattle.event.specs.Overrides.{has_mark, name_fault, name_faults, alone, excluded_fault, patch_in, override_of, overrides_in, read_overrides}
use Rattle.event.specs.Event.{details_in, event_in, faults_in, faults_of}
use Rattle.event.proofs.ValueNumbers.{pick}
use Rattle.event.proofs.Numbers.{Each, both, every, ◌and◌, no_more}

-- What is said of a value that may be absent.
abbrev If : {A : Type 0} → (A → Type 0) → Option A → Type 0
If P none = Unit {0}
If P (some a) = P a

begins-there : (v : Json) → begins (place_of v) v ≡ true
unfolding begins
begins-there (null_at i) = eq-eqb i i refl
begins-there (false_at i) = eq-eqb i i refl
begins-there (true_at i) = eq-eqb i i refl
begins-there (number_of i n) = eq-eqb i i refl
begins-there (string_of i raw) = eq-eqb i i refl
begins-there (array_of i items) = or_left _ _ (eq-eqb i i refl)
begins-there (object_of i fields) = or_left _ _ (eq-eqb i i refl)

module _ (t : Json) where
  abbrev Begins : ℕ → Type 0
  Begins p = begins p t ≡ true

  abbrev There : Fault → Type 0
  There f = Begins f.place

  -- ---- the parts of the tree: what begins in them begins in it

  abbrev ValueIn : Json → Type 0
  ValueIn v = (p : ℕ) → begins p v ≡ true → Begins p

  abbrev ItemsIn : Items → Type 0
  ItemsIn items = (p : ℕ) → items_begin p items ≡ true → Begins p

  abbrev FieldsIn : Fields → Type 0
  FieldsIn fields = (p : ℕ) → fields_begin p fields ≡ true → Begins p

  abbrev AllIn : List Json → Type 0
  AllIn [] = Unit {0}
  AllIn (v ∷ vs) = ValueIn v × AllIn vs

  place-in : (v : Json) → ValueIn v → Begins (place_of v)
  place-in v h = h (place_of v) (begins-there v)

  object-in : (v : Json) → ValueIn v → If FieldsIn (object v)
  object-in (null_at i) h = tt
  object-in (false_at i) h = tt
  object-in (true_at i) h = tt
  object-in (number_of i n) h = tt
  object-in (string_of i raw) h = tt
  object-in (array_of i items) h = tt
  object-in (object_of i fields) h = λ p e. h p (unfold begins in or_right (eqb i p) _ e)

  list-in : (items : Items) → ItemsIn items → AllIn (list_of items)
  unfolding list_of items_begin
  list-in no_item h = tt
  list-in (item v items) h = (λ p e. h p (or_left (begins p v) _ e), list-in items (λ p e. h p (or_right (begins p v) _ e)))

  array-in : (v : Json) → ValueIn v → If AllIn (array v)
  array-in (null_at i) h = tt
  array-in (false_at i) h = tt
  array-in (true_at i) h = tt
  array-in (number_of i n) h = tt
  array-in (string_of i raw) h = tt
  array-in (array_of i items) h = list-in items (λ p e. h p (unfold begins in or_right (eqb i p) _ e))
  array-in (object_of i fields) h = tt

  -- the name, the value and the rest of fields
  name_in : (at : ℕ) (name : List ℕ) (v : Json) (fields : Fields) → FieldsIn (field at name v fields) → Begins at
  unfolding fields_begin
  name_in at name v fields h = h at (or_left (eqb at at) _ (eq-eqb at at refl))

  value_in : (at : ℕ) (name : List ℕ) (v : Json) (fields : Fields) → FieldsIn (field at name v fields) → ValueIn v
  unfolding fields_begin
  value_in at name v fields h p e = h p (or_right (eqb at p) _ (or_left (begins p v) _ e))

  rest_in : (at : ℕ) (name : List ℕ) (v : Json) (fields : Fields) → FieldsIn (field at name v fields) → FieldsIn fields
  unfolding fields_begin
  rest_in at name v fields h p e = h p (or_right (eqb at p) _ (or_right (begins p v) _ e))

  member-in : (x : List ℕ) (fields : Fields) → FieldsIn fields → If ValueIn (member x fields)
  unfolding member look_up
  member-in x no_field h = tt
  member-in x (field at name v fields) h =
      pick (λ o. If ValueIn (as_option o)) (same name x) _ _ (value_in at name v fields h) (member-in x fields (rest_in at name v fields h))

  -- ---- values in their places

  abbrev Good : {A : Type 0} → Judged A → Type 0
  Good r = Each There r.faults

  abbrev GoodAt : {A : Type 0} → (Json → Judged A) → Type 0
  GoodAt f = (v : Json) → ValueIn v → Good (f v)

  one : (n at : ℕ) → Begins at → Each There (faults_at n at)
  unfolding faults_at
  one n at h = pick (Each There) (eqb n 0) _ _ tt (h, tt)

  an-entry : {A : Type 0} (f : Json → Reading A) → GoodAt (entry f)
  unfolding entry
  an-entry f v h = one (f v).fault (place_of v) (place-in v h)

  as-whole : (o : Option Json) → If ValueIn o → Each There (unsupported o)
  unfolding unsupported
  as-whole none h = tt
  as-whole (some v) h = one 8 (place_of v) (place-in v h)

  all-good : {A : Type 0} (f : Json → Judged A) → GoodAt f → (vs : List Json) → AllIn vs → Good (read_all f vs)
  unfolding read_all
  all-good f g [] h = tt
  all-good f g (v ∷ vs) h = both There (f v).faults (read_all f vs).faults (g v h.0) (all-good f g vs h.1)

  few-good : {A : Type 0} (most at : ℕ) (r : Judged (List A)) → Begins at → Good r → Good (limited most at r)
  unfolding limited
  few-good most at r b h = both There r.faults _ h (pick (Each There) (ltb most (length r.value)) _ _ (one 9 at b) tt)

  in-it : {A B : Type 0} (b : B) (P : A → Type 0) (at : ℕ) (f : A → Judged B) → Begins at → ((a : A) → P a → Good (f a))
      → (o : Option A) → If P o → Good (inside b at f o)
  unfolding inside
  in-it b P at f h g none p = one 20 at h
  in-it b P at f h g (some a) p = g a p

  in-object : {B : Type 0} (b : B) (f : Fields → Judged B) (v : Json) → ValueIn v
      → ((fields : Fields) → FieldsIn fields → Good (f fields)) → Good (inside b (place_of v) f (object v))
  in-object b f v h g = in-it b FieldsIn (place_of v) f (place-in v h) g (object v) (object-in v h)

  in_array : {B : Type 0} (b : B) (f : List Json → Judged B) (v : Json) → ValueIn v
      → ((vs : List Json) → AllIn vs → Good (f vs)) → Good (inside b (place_of v) f (array v))
  in_array b f v h g = in-it b AllIn (place_of v) f (place-in v h) g (array v) (array-in v h)

  where-there : {A : Type 0} (a : A) (f : Json → Judged A) → GoodAt f → (o : Option Json) → If ValueIn o → Good (present a f o)
  unfolding present
  where-there a f g none h = tt
  where-there a f g (some v) h = g v h

  list-good : {A : Type 0} (f : Json → Judged A) → GoodAt f → (o : Option Json) → If ValueIn o → Good (by_list f o)
  unfolding by_list
  list-good f g o h = where-there [] _ (λ v i. in_array [] (entries_of f (place_of v)) v i (entries (place_of v) (place-in v i))) o h
    where
      entries : (at : ℕ) → Begins at → (vs : List Json) → AllIn vs → Good (entries_of f at vs)
      entries at b [] h = unfold entries_of in one 25 at b
      entries at b (v ∷ vs) h = unfold entries_of in few-good 64 at (read_all f (v ∷ vs)) b (all-good f g (v ∷ vs) h)

  names-good : (fields : Fields) → FieldsIn fields → Each There (name_faults fields)
  unfolding name_faults name_fault
  names-good no_field h = tt
  names-good (field at name v fields) h =
      both There (name_fault at name) (name_faults fields)
      (pick (Each There) (same name (ascii "timeZone") || has_mark name) _ _ (one 8 at (name_in at name v fields h)) tt)
      (names-good fields (rest_in at name v fields h))

  -- ---- the members of an object, and what is missing there

  module _ (at : ℕ) (b : Begins at) (fields : Fields) (h : FieldsIn fields) where
    of : {A : Type 0} (f : Option Json → Reading A) (x : List ℕ) → Good (placed at f (member x fields))
    unfolding placed
    of f x = one (f (member x fields)).fault (place_in at (member x fields)) (there (member x fields) (member-in x fields h))
      where
        there : (o : Option Json) → If ValueIn o → Begins (place_in at o)
        there none i = unfold place_in in b
        there (some v) i = unfold place_in in place-in v i

    whole : (x : List ℕ) → Each There (unsupported (member x fields))
    whole x = as-whole (member x fields) (member-in x fields h)

    listed : {A : Type 0} (f : Json → Judged A) → GoodAt f → (x : List ℕ) → Good (by_list f (member x fields))
    listed f g x = list-good f g (member x fields) (member-in x fields h)

    held : {A : Type 0} (f : Json → Judged (List A)) → GoodAt f → (x : List ℕ) → Good (present [] f (member x fields))
    held f g x = where-there [] f g (member x fields) (member-in x fields h)

    nday-in : Good (nday_in at fields)
    unfolding nday_in
    nday-in = every There _ (of _ _ and of _ _ and of _ _ and no_more)

    lists-in : Each There (unsupported_lists fields)
    unfolding unsupported_lists
    lists-in = every There _ (whole _ and whole _ and whole _ and whole _ and whole _ and no_more)

    ends-in : (count until : Option Json) → Each There (both_ends at count until)
    unfolding both_ends
    ends-in none until = tt
    ends-in (some c) none = tt
    ends-in (some c) (some u) = one 7 at b

    under-in : (f : Frequency) (l : List NDay) → Each There (nth_under at f l)
    unfolding nth_under
    under-in frequency.Daily l = pick (Each There) (any_nth l) _ _ (one 7 at b) tt
    under-in frequency.Weekly l = pick (Each There) (any_nth l) _ _ (one 7 at b) tt
    under-in frequency.Monthly l = tt
    under-in frequency.Yearly l = tt

    rule-in : GoodAt read_nday → Good (rule_in at fields)
    unfolding rule_in
    rule-in nday =
        every There _ (of _ _ and of _ _ and of _ _ and of _ _ and listed read_nday nday _ and listed _ (an-entry _) _
        and listed _ (an-entry _) _ and listed _ (an-entry _) _ and of _ _ and of _ _ and ends-in _ _ and under-in _ _ and of _ _
        and of _ _ and lists-in and no_more)

    excluded-in : (excluded : Bool) → Each There (excluded_fault at excluded fields)
    unfolding excluded_fault
    excluded-in excluded = pick (Each There) (excluded && not (alone fields)) _ _ (one 7 at b) tt

    patch-in : (own : Details) (id : ℕ) → Good (patch_in own id at fields)
    unfolding patch_in
    patch-in own id =
        every There _ (of _ _ and of _ _ and of _ _ and of _ _ and of _ _ and of _ _ and of _ _ and excluded-in _ and names-good fields h and no_more)

    details-in : Good (details_in at fields)
    unfolding details_in
    details-in = every There _ (of _ _ and of _ _ and of _ _ and of _ _ and of _ _ and of _ _ and no_more)

    event-in : GoodAt read_rules → ((own : Details) → GoodAt (read_overrides own)) → Good (event_in at fields)
    unfolding event_in
    event-in rules over =
        every There _ (of _ _ and of _ _ and of _ _ and of _ _ and details-in and whole _ and held read_rules rules _
        and held read_rules rules _ and held (read_overrides _) (over _) _ and no_more)

  -- ---- rules

  nday-good : GoodAt read_nday
  unfolding read_nday
  nday-good v h = in-object _ (nday_in (place_of v)) v h (nday-in (place_of v) (place-in v h))

  rule-good : GoodAt read_rule
  unfolding read_rule
  rule-good v h = in-object _ (rule_in (place_of v)) v h (λ fields i. rule-in (place_of v) (place-in v h) fields i nday-good)

  rules-good : GoodAt read_rules
  unfolding read_rules
  rules-good v h = in_array [] _ v h (λ vs i. few-good 8 (place_of v) (read_all read_rule vs) (place-in v h) (all-good read_rule rule-good vs i))

  -- ---- overrides

  override-good : (own : Details) (at : ℕ) (name : List ℕ) (patch : Json) → Begins at → ValueIn patch → Good (override_of own at name patch)
  unfolding override_of
  override-good own at name patch b h =
      both There (faults_at (date_time name).fault at) _ (one _ at b)
      (in-object _ _ patch h (λ fields i. patch-in (place_of patch) (place-in patch h) fields i own _))

  overrides-good : (own : Details) (fields : Fields) → FieldsIn fields → Good (overrides_in own fields)
  unfolding overrides_in
  overrides-good own no_field h = tt
  overrides-good own (field at name patch fields) h =
      both There (override_of own at name patch).faults (overrides_in own fields).faults
      (override-good own at name patch (name_in at name patch fields h) (value_in at name patch fields h))
      (overrides-good own fields (rest_in at name patch fields h))

  over-good : (own : Details) → GoodAt (read_overrides own)
  unfolding read_overrides
  over-good own v h = in-object [] _ v h (λ fields i. few-good 256 (place_of v) (overrides_in own fields) (place-in v h) (overrides-good own fields i))

  -- ---- the event

  tree-good : (o : Option Fields) → If FieldsIn o → Each There (faults_in (place_of t) o)
  unfolding faults_in
  tree-good none h = tt
  tree-good (some fields) h = event-in (place_of t) (begins-there t) fields h rules-good over-good

pub faults-begin : (s : List ℕ) → Each (λ (f : Fault). begins f.place (text_tree s) ≡ true) (faults_of s)
unfolding faults_of
faults-begin s = tree-good (text_tree s) (object (text_tree s)) (object-in (text_tree s) (text_tree s) (λ p e. e))
