-- Demand 3, about the definitions: two accepted private events that agree have the same sheet, byte for byte in the whole buffer, and the same
-- answers for words; two accepted secret ones too, whatever they hold. For every zone table, window, buffer and date.
use Prim.Native.Nat.{ℕ}
use mathlib.Core.Bool.{Bool, true, false, not, ◌&&◌, ◌||◌}
use mathlib.Core.List.{List, [], ◌∷◌}
use mathlib.Core.Option.{Option, none, some}
use mathlib.Core.Path.{◌≡◌, refl, sym, ap, ap₂, ◌∙◌}
use lib.Dec.{eqb}
use lib.IntN.{ℤ}
use Rattle.signed.proofs.Parts.{false-true}
use Rattle.rule.specs.Lists.{any}
use Rattle.recurrence.specs.Event.{in_set}
use Rattle.recurrence.specs.Inner.Candidates.{in_window}
use Rattle.recurrence.specs.Inner.Order.{among}
use Rattle.recurrence.proofs.Ordered.{head-among}
use Rattle.recurrence.proofs.Exactly.{ids-exactly}
use Rattle.keywords.specs.declared.Privacy.{Privacy}
use Rattle.keywords.specs.declared.Privacy.TheVariants.{Private, Secret}
use Rattle.event.specs.Types.{Text, Details, Event}
use Rattle.sheet.specs.Records.{Row}
use Rattle.sheet.specs.Writing.{sheet_of}
use Rattle.call_definitions.specs.Window.{since1600}
use Rattle.call_definitions.specs.Occurrence.{dates_of, is_occurrence, occurrences, details_at}
use Rattle.call_definitions.specs.Utc.{ZoneTable, utc_start, utc_end}
use Rattle.call_definitions.specs.Bytes.{marks_of, row_of, rows_for, listed, rows_in, written_version, table_of}
use Rattle.call_definitions.specs.Answer.{outcome_by, answer_for, expanded, date_time_of, text_answer_for, text_answer}
use Rattle.call_definitions.specs.Call.{expand_text, Shown, place_of, no_place, shown_for, shown_at, text_of}
use Rattle.event.specs.Event.{event_of}
use Rattle.call_definitions.specs.Agree.{Times, times_of, Agree, Accepted}
use Rattle.call_definitions.proofs.Same.{same_set, same-occurrences, same-times}

and_right : (s t : Bool) → (s && t) ≡ true → t ≡ true
and_right true t e = e
and_right false t e = false-true e

-- a record is a function of the times
same_row : (table : ZoneTable) (zone : Option (List ℕ)) (id : ℕ) (c d : Details) → times_of c ≡ times_of d → row_of table zone id c ≡ row_of table zone id d
unfolding times_of row_of marks_of utc_start utc_end
same_row table zone id c d e =
    rw (ap (λ (t : Times). t.start) e, ap (λ (t : Times). t.length) e, ap (λ (t : Times). t.busy) e, ap (λ (t : Times). t.all_day) e)

or_right : (s t : Bool) → t ≡ true → (s || t) ≡ true
or_right true t e = refl
or_right false t e = e

tail-among : (x y : ℕ) (xs : List ℕ) → among y xs ≡ true → among y (x ∷ xs) ≡ true
unfolding among any
tail-among x y xs e = or_right (eqb x y) (among y xs) e

-- and so are the records of a list of occurrences
same_rows : (table : ZoneTable) (a b : Event) → a.zone ≡ b.zone → (xs : List ℕ)
    → ((x : ℕ) → among x xs ≡ true → times_of (details_at a x) ≡ times_of (details_at b x))
    → rows_for table a xs ≡ rows_for table b xs
unfolding rows_for
same_rows table a b z [] h = refl
same_rows table a b z (x ∷ xs) h =
    let first : row_of table a.zone x (details_at a x) ≡ row_of table b.zone x (details_at b x) = ap (λ (zone : Option (List ℕ)). row_of table zone x (details_at a x)) z ∙ same_row table b.zone x (details_at a x) (details_at b x) (h x (head-among x xs)) in
    let others = same_rows table a b z xs (λ y e. h y (tail-among x y xs e)) in
    ap₂ (λ (r : Row) (rs : List Row). r ∷ rs) first others

private-is : (table : ZoneTable) (e : Event) → e.privacy ≡ Private → (from to : ℤ)
    → rows_in table e from to ≡ rows_for table e (occurrences e (since1600 from) (since1600 to))
unfolding rows_in listed
private-is table e p from to = λ i. rows_for table e (listed e (p i) (since1600 from) (since1600 to))

-- of a window's occurrences
module _ (a b : Event) (g : Agree a b) where
  listed-times : (from to x : ℕ) → among x (occurrences a from to) ≡ true → times_of (details_at a x) ≡ times_of (details_at b x)
  unfolding occurrences is_occurrence
  listed-times from to x e = same-times a b g x (and_right (in_window from to x) (in_set (dates_of a) x) (sym (ids-exactly (dates_of a) from to x) ∙ e))

  occurrence-rows : (table : ZoneTable) (from to : ℕ) → rows_for table a (occurrences a from to) ≡ rows_for table b (occurrences b from to)
  occurrence-rows table from to =
      same_rows table a b g.zones (occurrences a from to) (listed-times from to)
      ∙ ap (rows_for table b) (same-occurrences a b g from to)

  -- two private events that agree have the same table
  module _ (p : a.privacy ≡ Private) (q : b.privacy ≡ Private) where
    pub same-table : (table : ZoneTable) (from to : ℤ) → table_of table a from to ≡ table_of table b from to
    unfolding table_of
    same-table table from to =
        ap (sheet_of written_version)
        (private-is table a p from to ∙ occurrence-rows table (since1600 from) (since1600 to) ∙ sym (private-is table b q from to))

    same-privacy : a.privacy ≡ b.privacy
    same-privacy = p ∙ sym q

    -- the same number, the same length, the same bytes in the whole buffer
    pub private-table : (table : ZoneTable) (from to : ℤ) (buffer : List ℕ) → expanded table a from to buffer ≡ expanded table b from to buffer
    unfolding expanded
    private-table table from to buffer =
        λ i. outcome_by (answer_for table from to (same-privacy i) (g.zones i) (same-table table from to i) buffer) (same-table table from to i) buffer

    -- the texts' answers are the same, and no bytes come out
    pub private-text-answer : (date : Option ℕ) → text_answer a date ≡ text_answer b date
    unfolding text_answer
    private-text-answer none = refl
    private-text-answer (some x) = λ i. text_answer_for (same-privacy i) (same_set a b g x i)

secret-answer : (zones : ZoneTable) (from to : ℤ) (c d : Privacy) (zone zone' : Option (List ℕ)) (table buffer : List ℕ) → c ≡ Secret → d ≡ Secret
    → answer_for zones from to c zone table buffer ≡ answer_for zones from to d zone' table buffer
unfolding answer_for
secret-answer zones from to c d zone zone' table buffer p q = rw (p, q)

-- "A secret event has no records, only the trailer."
pub secret-is : (table : ZoneTable) (e : Event) → e.privacy ≡ Secret → (from to : ℤ) → table_of table e from to ≡ sheet_of written_version []
unfolding table_of rows_in listed rows_for
secret-is table e p from to = rw p

-- two secret events, whatever they hold
module _ (a b : Event) (p : a.privacy ≡ Secret) (q : b.privacy ≡ Secret) where
  secret-same : (table : ZoneTable) (from to : ℤ) → table_of table a from to ≡ table_of table b from to
  secret-same table from to = secret-is table a p from to ∙ sym (secret-is table b q from to)

  -- 12 is never given, so the zones do not show
  pub secret-table : (table : ZoneTable) (from to : ℤ) (buffer : List ℕ) → expanded table a from to buffer ≡ expanded table b from to buffer
  unfolding expanded
  secret-table table from to buffer =
      let t = secret-same table from to in
      ap (λ (answer : ℕ). outcome_by answer (table_of table a from to) buffer) (secret-answer table from to a.privacy b.privacy a.zone b.zone (table_of table a from to) buffer p q)
      ∙ ap (λ (l : List ℕ). outcome_by (answer_for table from to b.privacy b.zone l buffer) l buffer) t

never : (occurs : Bool) → text_answer_for Secret occurs ≡ 14
unfolding text_answer_for
never occurs = refl

pub secret-text-answer : (e : Event) (date : Option ℕ) → e.privacy ≡ Secret → text_answer e date ≡ 14
unfolding text_answer
secret-text-answer e none p = refl
secret-text-answer e (some x) p = ap (λ (c : Privacy). text_answer_for c (is_occurrence e x)) p ∙ never (is_occurrence e x)

-- ---- on texts

pub accepted-table : (privacy : Privacy) (s : List ℕ) → Accepted privacy s → (zones : ZoneTable) (from to : ℤ) (buffer : List ℕ)
    → expand_text zones s from to buffer ≡ expanded zones (event_of s) from to buffer
unfolding expand_text
accepted-table privacy s h zones from to buffer = rw h.accepted

accepted-text : (privacy : Privacy) (s : List ℕ) → Accepted privacy s → (which : Details → Option Text) (date : ℤ)
    → text_of which s date ≡ shown_at which (event_of s) (date_time_of date)
unfolding text_of
accepted-text privacy s h which date = rw h.accepted

-- a private event shows only whether the date is an occurrence, a secret one not even that
and-false : (t : Bool) → (t && false) ≡ false
and-false true = refl
and-false false = refl

private-no-place : (answer : ℕ) (place : Shown) → shown_for Private answer place ≡ no_place answer
unfolding shown_for
private-no-place answer place = rw (and-false (eqb answer 0))

secret-no-place : (answer : ℕ) (place : Shown) → shown_for Secret answer place ≡ no_place answer
unfolding shown_for
secret-no-place answer place = rw (and-false (eqb answer 0))

private-shown : (which : Details → Option Text) (e : Event) (date : Option ℕ) → e.privacy ≡ Private → shown_at which e date ≡ no_place (text_answer e date)
unfolding shown_at
private-shown which e none p = unfold text_answer in refl
private-shown which e (some x) p =
    ap (λ (c : Privacy). shown_for c (text_answer e (some x)) (place_of (which (details_at e x)))) p
    ∙ private-no-place (text_answer e (some x)) (place_of (which (details_at e x)))

secret-shown : (which : Details → Option Text) (e : Event) (date : Option ℕ) → e.privacy ≡ Secret → shown_at which e date ≡ no_place 14
unfolding shown_at
secret-shown which e none p = refl
secret-shown which e (some x) p =
    ap (λ (c : Privacy). shown_for c (text_answer e (some x)) (place_of (which (details_at e x)))) p
    ∙ secret-no-place (text_answer e (some x)) (place_of (which (details_at e x)))
    ∙ ap no_place (secret-text-answer e (some x) p)

-- the words of a private event are none, and so are those of a secret one, whose answer is 14
pub private-text : (s : List ℕ) → Accepted Private s → (which : Details → Option Text) (date : ℤ)
    → text_of which s date ≡ no_place (text_answer (event_of s) (date_time_of date))
private-text s h which date = accepted-text Private s h which date ∙ private-shown which (event_of s) (date_time_of date) h.setting

pub secret-text : (s : List ℕ) → Accepted Secret s → (which : Details → Option Text) (date : ℤ) → text_of which s date ≡ no_place 14
secret-text s h which date = accepted-text Secret s h which date ∙ secret-shown which (event_of s) (date_time_of date) h.setting

-- two accepted private events that agree have the same table and the same words
module _ (s t : List ℕ) (h : Accepted Private s) (k : Accepted Private t) (g : Agree (event_of s) (event_of t)) where
  pub private-tables : (zones : ZoneTable) (from to : ℤ) (buffer : List ℕ) → expand_text zones s from to buffer ≡ expand_text zones t from to buffer
  private-tables zones from to buffer =
      accepted-table Private s h zones from to buffer
      ∙ private-table (event_of s) (event_of t) g h.setting k.setting zones from to buffer
      ∙ sym (accepted-table Private t k zones from to buffer)

  pub private-texts : (which : Details → Option Text) (date : ℤ) → text_of which s date ≡ text_of which t date
  private-texts which date =
      private-text s h which date
      ∙ ap no_place (private-text-answer (event_of s) (event_of t) g h.setting k.setting (date_time_of date))
      ∙ sym (private-text t k which date)

-- two accepted secret events have the same table, whatever they hold
pub secret-tables : (s t : List ℕ) → Accepted Secret s → Accepted Secret t
    → (zones : ZoneTable) (from to : ℤ) (buffer : List ℕ) → expand_text zones s from to buffer ≡ expand_text zones t from to buffer
secret-tables s t h k zones from to buffer =
    accepted-table Secret s h zones from to buffer
    ∙ secret-table (event_of s) (event_of t) h.setting k.setting zones from to buffer
    ∙ sym (accepted-table Secret t k zones from to buffer)
