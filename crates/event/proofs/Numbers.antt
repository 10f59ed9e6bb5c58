-- The faults of an event have the numbers 7 to 9 and 20 to 26. So where the number that is given is 0, there is no fault.
use Rattle.std.specs.Prelude.{if◌then◌else◌, Some, None}
use Prim.Native.Nat.{ℕ}
use mathlib.Core.Bool.{Bool, true, false, not, ◌&&◌, ◌||◌}
use mathlib.Core.List.{List, [], ◌∷◌, ◌++◌}
use mathlib.Core.Option.{Option, none, some}
use mathlib.Core.Path.{◌≡◌, refl}
use native.Mathlib.Omega.{arith}
use lib.Dec.{eqb, ltb}
use lib.ListN.{length}
use Rattle.signed.proofs.Parts.{false-true}
use Rattle.fault.specs.declared.Fault.{Fault}
use Rattle.fault.specs.Fault.{faults_at, all_of, decides, lower, first, first_number, First, a_fault}
use Rattle.fault.proofs.Laws.{first-none}
use Rattle.json_text.specs.Ascii.{ascii}
use Rattle.json_walk.specs.Strings.{same}
use Rattle.json_tree.specs.Tree.{Json, Fields, no_field, field, place_of, text_tree}
use Rattle.rule.specs.declared.Frequency.{Frequency}
use Rattle.rule.specs.declared.Frequency.TheVariants as frequency
use Rattle.rule.specs.Written.{NDay}
use Rattle.event.specs.Types.{Details}
use Rattle.event.specs.Values.{array, object}
use Rattle.event.specs.Reading.{Reading, Judged, place_in, placed, entry, inside, present, unsupported, read_all, limited}
use Rattle.event.specs.Properties.{date_time, read_uid, read_updated, read_start, read_until, read_zone, read_length, read_busy, read_boolean, read_privacy, read_text, no_length}
use Rattle.event.specs.Rules.{read_frequency, read_count, read_signed, read_weekday, nday_in, read_nday, read_month, entries_of, by_list, read_scale, read_skip, unsupported_lists, both_ends, any_nth, nth_under, rule_in, read_rule, read_rules}
use Rattle.event.specs.Overrides.{has_mark, name_fault, name_faults, alone, excluded_fault, patch_in, override_of, overrides_in, read_overrides}
use Rattle.event.specs.Event.{details_in, event_in, faults_in, faults_of, is_no_event, event_first, event_fault}
use Rattle.event.proofs.ValueNumbers.{is_number, Told, Read, pick, if-there, must-be, patch-of, may-be, local-fault, uid-fault, updated-fault, start-fault, until-fault, zone-fault, length-fault, busy-fault, boolean-fault, privacy-fault, text-fault, frequency-fault, type-fault, count-fault, signed-fault, day-fault, nth-fault, number-fault, rscale-fault, omit-fault, moved-fault}

abbrev pub Each : (Fault → Type 0) → List Fault → Type 0
Each P [] = Unit {0}
Each P (f ∷ l) = P f × Each P l

-- ---- lists that are put together

pub both : (P : Fault → Type 0) (l m : List Fault) → Each P l → Each P m → Each P (l ++ m)
both P [] m p q = q
both P (f ∷ l) m p q = (p.0, both P l m p.1 q)

-- the parts of a whole, one after the other
infixr 4 ◌and◌
pub data Parts (P : Fault → Type 0) : List (List Fault) → Type 0 where
  no_more : Parts P []
  ◌and◌ : {part : List Fault} {parts : List (List Fault)} → Each P part → Parts P parts → Parts P (part ∷ parts)

pub every : (P : Fault → Type 0) (parts : List (List Fault)) → Parts P parts → Each P (all_of parts)
unfolding all_of
every P _ no_more = tt
every P _ (◌and◌ {part} {parts} p q) = both P part (all_of parts) p (every P parts q)

-- ---- numbers

abbrev Numbered : Fault → Type 0
Numbered f = is_number f.number ≡ true

abbrev pub AllNumbered : List Fault → Type 0
AllNumbered l = Each Numbered l

one : (n at : ℕ) → Told n → AllNumbered (faults_at n at)
unfolding faults_at
one n at h = go (eqb n 0) h
  where
    go : (t : Bool) → (t || is_number n) ≡ true → AllNumbered (if t then [] else record { number = n; place = at } ∷ [])
    go true e = tt
    go false e = (e, tt)

abbrev Good : {A : Type 0} → Judged A → Type 0
Good r = AllNumbered r.faults

abbrev GoodAt : {A : Type 0} → (Json → Judged A) → Type 0
GoodAt f = (v : Json) → Good (f v)

-- ---- values in their places

in_place : {A : Type 0} (at : ℕ) (f : Option Json → Reading A) (v : Option Json) → Told (f v).fault → Good (placed at f v)
unfolding placed
in_place at f v h = one (f v).fault (place_in at v) h

an-entry : {A : Type 0} (f : Json → Reading A) → Read f → GoodAt (entry f)
unfolding entry
an-entry f h v = one (f v).fault (place_of v) (h v)

in-it : {A B : Type 0} (b : B) (at : ℕ) (f : A → Judged B) → ((a : A) → Good (f a)) → (o : Option A) → Good (inside b at f o)
unfolding inside
in-it b at f h none = one 20 at refl
in-it b at f h (some a) = h a

where-there : {A : Type 0} (a : A) (f : Json → Judged A) → GoodAt f → (o : Option Json) → Good (present a f o)
unfolding present
where-there a f h none = tt
where-there a f h (some v) = h v

as-whole : (o : Option Json) → AllNumbered (unsupported o)
unfolding unsupported
as-whole none = tt
as-whole (some v) = one 8 (place_of v) refl

all-good : {A : Type 0} (f : Json → Judged A) → GoodAt f → (vs : List Json) → Good (read_all f vs)
unfolding read_all
all-good f h [] = tt
all-good f h (v ∷ vs) = both Numbered (f v).faults (read_all f vs).faults (h v) (all-good f h vs)

few-good : {A : Type 0} (most at : ℕ) (r : Judged (List A)) → Good r → Good (limited most at r)
unfolding limited
few-good most at r h = both Numbered r.faults _ h (pick AllNumbered (ltb most (length r.value)) _ _ (one 9 at refl) tt)

-- ---- rules

module _ {A : Type 0} (f : Json → Judged A) (h : GoodAt f) where
  entries-good : (at : ℕ) (vs : List Json) → Good (entries_of f at vs)
  unfolding entries_of
  entries-good at [] = one 25 at refl
  entries-good at (v ∷ vs) = few-good 64 at (read_all f (v ∷ vs)) (all-good f h (v ∷ vs))

  list-good : (o : Option Json) → Good (by_list f o)
  unfolding by_list
  list-good o = where-there [] _ (λ v. in-it [] (place_of v) (entries_of f (place_of v)) (entries-good (place_of v)) (array v)) o

nday-good : GoodAt read_nday
unfolding read_nday nday_in
nday-good v =
    in-it _ (place_of v) (nday_in (place_of v))
    (λ fields. every Numbered _ (in_place _ _ _ (must-be _ _ (type-fault _) _)
    and in_place _ _ _ (must-be 0 read_weekday day-fault _)
    and in_place _ _ _ (nth-fault _) and no_more))
    (object v)

lists-good : (fields : Fields) → AllNumbered (unsupported_lists fields)
unfolding unsupported_lists
lists-good fields = every Numbered _ (as-whole _ and as-whole _ and as-whole _ and as-whole _ and as-whole _ and no_more)

ends-good : (at : ℕ) (count until : Option Json) → AllNumbered (both_ends at count until)
unfolding both_ends
ends-good at none until = tt
ends-good at (some c) none = tt
ends-good at (some c) (some u) = one 7 at refl

under-good : (at : ℕ) (f : Frequency) (l : List NDay) → AllNumbered (nth_under at f l)
unfolding nth_under
under-good at frequency.Daily l = pick AllNumbered (any_nth l) _ _ (one 7 at refl) tt
under-good at frequency.Weekly l = pick AllNumbered (any_nth l) _ _ (one 7 at refl) tt
under-good at frequency.Monthly l = tt
under-good at frequency.Yearly l = tt

rule-good : GoodAt read_rule
unfolding read_rule rule_in
rule-good v =
    in-it _ (place_of v) (rule_in (place_of v))
    (λ fields.
    every Numbered _ (in_place _ _ _ (must-be _ _ (type-fault _) _)
    and in_place _ _ _ (must-be _ read_frequency frequency-fault _)
    and in_place _ _ _ (if-there 1 read_count count-fault _)
    and in_place _ _ _ (if-there 0 read_weekday day-fault _)
    and list-good read_nday nday-good _
    and list-good _ (an-entry (read_signed 31) (signed-fault 31)) _
    and list-good _ (an-entry read_month number-fault) _
    and list-good _ (an-entry (read_signed 366) (signed-fault 366)) _
    and in_place _ _ _ (may-be 0 read_until until-fault _)
    and in_place _ _ _ (may-be 0 read_count count-fault _)
    and ends-good _ _ _
    and under-good _ _ _
    and in_place _ _ _ (if-there true read_scale rscale-fault _)
    and in_place _ _ _ (if-there true read_skip omit-fault _)
    and lists-good fields and no_more))
    (object v)

rules-good : GoodAt read_rules
unfolding read_rules
rules-good v = in-it [] (place_of v) _ (λ vs. few-good 8 (place_of v) (read_all read_rule vs) (all-good read_rule rule-good vs)) (array v)

-- ---- overrides

name-good : (at : ℕ) (name : List ℕ) → AllNumbered (name_fault at name)
unfolding name_fault
name-good at name = pick AllNumbered (same name (ascii "timeZone") || has_mark name) _ _ (one 8 at refl) tt

names-good : (fields : Fields) → AllNumbered (name_faults fields)
unfolding name_faults
names-good no_field = tt
names-good (field at name v fields) = both Numbered (name_fault at name) (name_faults fields) (name-good at name) (names-good fields)

excluded-good : (at : ℕ) (excluded : Bool) (fields : Fields) → AllNumbered (excluded_fault at excluded fields)
unfolding excluded_fault
excluded-good at excluded fields = pick AllNumbered (excluded && not (alone fields)) _ _ (one 7 at refl) tt

patch-good : (own : Details) (id at : ℕ) (fields : Fields) → Good (patch_in own id at fields)
unfolding patch_in
patch-good own id at fields =
    every Numbered _ (in_place _ _ _ (moved-fault id _)
    and in_place _ _ _ (patch-of no_length read_length length-fault _ _)
    and in_place _ _ _ (patch-of true read_busy busy-fault _ _)
    and in_place _ _ _ (patch-of false read_boolean boolean-fault _ _)
    and in_place _ _ _ (patch-of none read_text text-fault _ _)
    and in_place _ _ _ (patch-of none read_text text-fault _ _)
    and in_place _ _ _ (patch-of false read_boolean boolean-fault _ _)
    and excluded-good at _ fields
    and names-good fields and no_more)

override-good : (own : Details) (at : ℕ) (name : List ℕ) (patch : Json) → Good (override_of own at name patch)
unfolding override_of date_time
override-good own at name patch =
    both Numbered (faults_at (date_time name).fault at) _ (one _ at (local-fault 9998 name)) (in-it _ (place_of patch) _ (patch-good own _ (place_of patch)) (object patch))

overrides-good : (own : Details) (fields : Fields) → Good (overrides_in own fields)
unfolding overrides_in
overrides-good own no_field = tt
overrides-good own (field at name patch fields) =
    both Numbered (override_of own at name patch).faults (overrides_in own fields).faults (override-good own at name patch) (overrides-good own fields)

over-good : (own : Details) → GoodAt (read_overrides own)
unfolding read_overrides
over-good own v = in-it [] (place_of v) _ (λ fields. few-good 256 (place_of v) (overrides_in own fields) (overrides-good own fields)) (object v)

-- ---- the event

details-good : (at : ℕ) (fields : Fields) → Good (details_in at fields)
unfolding details_in
details-good at fields =
    every Numbered _ (in_place _ _ _ (must-be 0 read_start start-fault _)
    and in_place _ _ _ (if-there no_length read_length length-fault _)
    and in_place _ _ _ (if-there true read_busy busy-fault _)
    and in_place _ _ _ (if-there false read_boolean boolean-fault _)
    and in_place _ _ _ (if-there none read_text text-fault _)
    and in_place _ _ _ (if-there none read_text text-fault _) and no_more)

event-good : (at : ℕ) (fields : Fields) → Good (event_in at fields)
unfolding event_in
event-good at fields =
    every Numbered _ (in_place _ _ _ (must-be [] read_uid uid-fault _)
    and in_place _ _ _ (must-be true read_updated updated-fault _)
    and in_place _ _ _ (if-there none read_zone zone-fault _)
    and in_place _ _ _ (if-there _ read_privacy privacy-fault _)
    and details-good at fields
    and as-whole _
    and where-there [] read_rules rules-good _
    and where-there [] read_rules rules-good _
    and where-there [] (read_overrides _) (over-good _) _ and no_more)

pub faults-numbered : (s : List ℕ) → AllNumbered (faults_of s)
unfolding faults_of faults_in
faults-numbered s = go (object (text_tree s))
  where
    go : (o : Option Fields) → AllNumbered (faults_in (place_of (text_tree s)) o)
    go none = tt
    go (some fields) = event-good (place_of (text_tree s)) fields

-- ---- an accepted event

abbrev Real : First → Type 0
Real None = Unit {0}
Real (Some f) = is_number f.number ≡ true

first-real : (l : List Fault) → AllNumbered l → Real (first l)
unfolding first
first-real [] h = tt
first-real (f ∷ l) h = go (first l) (first-real l h.1)
  where
    go : (x : First) → Real x → Real (lower (Some f) x)
    go None r = unfold lower in h.0
    go (Some g) r = unfold lower in pick Real (decides f.number f.place g.number g.place) _ _ h.0 r

number-none : (l : List Fault) → AllNumbered l → first_number (first l) ≡ 0 → l ≡ []
number-none l h e = first-none l (go (first l) (first-real l h) e)
  where
    go : (x : First) → Real x → first_number x ≡ 0 → x ≡ None
    go None r z = refl
    go (Some f) r z = false-true (rw z at r)

-- "An event is accepted when none of 1 to 9 applies": it is an event, and nothing of it has a fault.
module _ (s : List ℕ) (accepted : event_fault s ≡ 0) where
  both_hold : (is_no_event (object (text_tree s)) ≡ false) × (faults_of s ≡ [])
  unfolding event_fault event_first
  both_hold = go (is_no_event (object (text_tree s))) refl accepted
    where
      go : (t : Bool) → is_no_event (object (text_tree s)) ≡ t → first_number (if t then Some (a_fault 5 0) else first (faults_of s)) ≡ 0
          → (is_no_event (object (text_tree s)) ≡ false) × (faults_of s ≡ [])
      go true e z = absurd (omega (arith, z))
      go false e z = (e, number-none (faults_of s) (faults-numbered s) z)

  pub accepted-is-event : is_no_event (object (text_tree s)) ≡ false
  accepted-is-event = both_hold.0

  pub accepted-faultless : faults_of s ≡ []
  accepted-faultless = both_hold.1
