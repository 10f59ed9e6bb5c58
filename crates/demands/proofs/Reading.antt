-- A sheet read back, of every call that keeps its contract: `Summarises (summary_of ..)`, `Fetches (fetch_of ..)`, `FetchesRun (run_of ..)`.
use Rattle.std.specs.Prelude.{if◌then◌else◌}
use Prim.Native.Nat.{ℕ, ◌+◌, ◌-◌, ◌<◌, ◌≤◌, min}
use mathlib.Core.Bool.{Bool, true, false, not}
use mathlib.Core.List.{List, [], ◌∷◌, map}
use mathlib.Core.Path.{◌≡◌, refl, sym, ap, ap₂, ◌∙◌, subst}
use native.Mathlib.Nat.{zero-add}
use native.Mathlib.Omega.{arith}
use lib.Dec.{eqb, leb}
use lib.IntN.{ℤ, pos}
use lib.ListN.{length, get_or, drop, get_or-append, length-append, length-drop}
use lib.Seq.{drop_at}
use borrow.Author.Tests.{eqb-true, eqb-false, le-leb}
use Rattle.rule.proofs.Bools.{by}
use Rattle.little_endian.specs.Bytes.{AllBytes}
use Rattle.sheet.specs.Runs.{tabulate}
use Rattle.sheet.specs.Records.{Row, row_at}
use Rattle.sheet.specs.Writing.{sheet_of}
use Rattle.sheet.specs.Reading.{version_of, count_of, rows_of, fault_in_rows, fault_of}
use Rattle.sheet.specs.Fetching.{Summary, summary_of, fetch_fault, Fetched, fetch_of, Run, over, handed_out, run_of, Summarises, Fetches, FetchesRun}
use Rattle.sheet.proofs.RunLaws.{tab-length, tab-at, tab-map}
use Rattle.sheet.proofs.Accepted.{accepted-is}
use Rattle.sheet.proofs.ReadWritten.{read-written, same-sheet}
use Rattle.sheet.proofs.FetchLaws.{number-below, summary-done, summary-none, fetch-done, fetch-none, room, run-done, run_none}
use Rattle.demands.specs.Conditions.{Given}
use Rattle.demands.specs.Reading.{sheet_conditions, record_conditions, ReadAnswered, RecordAnswered, Slices, row_in, past, lengths, RunAnswered, SameReadings, NoRecords}
use Rattle.demands.proofs.Given.{given_by, given_by_lem, Refusals, given-join}

-- ---- the lowest of 34 to 41

module _ (s : List ℕ) where
  sheet-refusals : Refusals (sheet_conditions s)
  unfolding sheet_conditions
  sheet-refusals = (refl, (refl, (refl, (refl, (refl, (refl, (refl, tt)))))))

  sheet-given : given_by (sheet_conditions s) ≡ fault_of s
  unfolding sheet_conditions given_by fault_of fault_in_rows
  sheet-given = refl

  pub sheet-judged : Given (sheet_conditions s) (fault_of s)
  sheet-judged = subst (Given (sheet_conditions s)) sheet-given (given_by_lem (sheet_conditions s))

  module _ (number : ℕ) where
    turned : (t : Bool) (a b : ℕ) → (if t then a else b) ≡ (if not t then b else a)
    turned true a b = refl
    turned false a b = refl

    record-given : given_by (record_conditions s number) ≡ fetch_fault s number
    unfolding record_conditions given_by fetch_fault
    record-given =
        given-join (sheet_conditions s) (record { number = 41; holds = leb (count_of s) number } ∷ []) sheet-refusals
        ∙ (rw sheet-given (turned (eqb (fault_of s) 0) _ (fault_of s)))

    pub record-judged : Given (record_conditions s number) (fetch_fault s number)
    record-judged = subst (Given (record_conditions s number)) record-given (given_by_lem (record_conditions s number))

-- ---- the records of a sheet

rows-length : (s : List ℕ) → length (rows_of s) ≡ count_of s
unfolding rows_of
rows-length s = tab-length (row_at s) 0 (count_of s)

row_of : (s : List ℕ) (k : ℕ) (d : Row) → k < count_of s → get_or (rows_of s) k d ≡ row_at s k
unfolding rows_of
row_of s k d h = tab-at (row_at s) 0 (count_of s) k d h ∙ ap (row_at s) (zero-add k)

-- ---- smocurant_read

module _ (s : List ℕ) where
  read_answer : (summary_of s).answer ≡ fault_of s
  read_answer =
      by (eqb (fault_of s) 0)
      (λ t. ap (λ (r : Summary). r.answer) (summary-done s (eqb-true (fault_of s) 0 t)) ∙ sym (eqb-true (fault_of s) 0 t))
      (λ t. ap (λ (r : Summary). r.answer) (summary-none s (eqb-false (fault_of s) 0 t)))

  module _ (answer version count : ℕ) (g : Summarises (summary_of s) answer version count) where
    pub is-fault : answer ≡ fault_of s
    is-fault = g.answer_is ∙ read_answer

    pub read-answered : ReadAnswered s answer version count
    read-answered =
        record {
          one = rw is-fault (sheet-judged s);
          refused_numbers =
              λ h.
              let r = summary-none s (λ z. h (is-fault ∙ z)) in
              (g.version_is ∙ ap (λ (u : Summary). u.version) r, g.count_is ∙ ap (λ (u : Summary). u.count) r);
          version_is = λ z. g.version_is ∙ ap (λ (u : Summary). u.version) (summary-done s (sym is-fault ∙ z));
          count_is = λ z. g.count_is ∙ ap (λ (u : Summary). u.count) (summary-done s (sym is-fault ∙ z)) ∙ sym (rows-length s);
        }

-- ---- smocurant_record

module _ (s : List ℕ) (number : ℕ) where
  fetch-answer : (fetch_of s number).answer ≡ fetch_fault s number
  fetch-answer =
      by (eqb (fetch_fault s number) 0)
      (λ t. ap (λ (r : Fetched). r.answer) (fetch-done s number (eqb-true (fetch_fault s number) 0 t)) ∙ sym (eqb-true (fetch_fault s number) 0 t))
      (λ t. ap (λ (r : Fetched). r.answer) (fetch-none s number (eqb-false (fetch_fault s number) 0 t)))

  module _ (answer : ℕ) (id start end : ℤ) (marks : ℕ) (g : Fetches (fetch_of s number) answer id start end marks) where
    pub is-fetch-fault : answer ≡ fetch_fault s number
    is-fetch-fault = g.answer_is ∙ fetch-answer

    abbrev handed : Row
    handed = record { id = id; start = start; end = end; marks = marks }

    handed-is : handed ≡ (fetch_of s number).row
    handed-is = λ i. record { id = g.id_is i; start = g.start_is i; end = g.end_is i; marks = g.marks_is i }

    pub record-answered : RecordAnswered s number answer id start end marks
    record-answered =
        record {
          one = rw is-fetch-fault (record-judged s number);
          refused_numbers =
              λ h.
              let r = handed-is ∙ ap (λ (u : Fetched). u.row) (fetch-none s number (λ z. h (is-fetch-fault ∙ z))) in
              (ap (λ (u : Row). u.id) r, (ap (λ (u : Row). u.start) r, (ap (λ (u : Row). u.end) r, ap (λ (u : Row). u.marks) r)));
          there = λ z. omega (arith, rows-length s, number-below s number (sym is-fetch-fault ∙ z));
          record_is =
              λ d z.
              let none = sym is-fetch-fault ∙ z in
              handed-is ∙ ap (λ (u : Fetched). u.row) (fetch-done s number none) ∙ sym (row_of s number d (number-below s number none));
        }

-- ---- smocurant_records

-- one of the slices: the field of each record first, and what lies past them
module _ {A : Type 0} (f : Row → A) (s : List ℕ) (first n : ℕ) (lent : List A) where
  abbrev values : List A
  values = map f (tabulate (row_at s) first n)

  values_length : length values ≡ n
  values_length = ap length (tab-map f (row_at s) first n) ∙ tab-length (λ i. f (row_at s i)) first n

  pub value-at : (k : ℕ) (d : A) → k < n → get_or (over values lent) k d ≡ f (row_at s (first + k))
  value-at k d h =
      get_or-append values (drop (length values) lent) d k (omega (arith, values_length))
      ∙ ap (λ (l : List A). get_or l k d) (tab-map f (row_at s) first n) ∙ tab-at (λ i. f (row_at s i)) first n k d h

  pub values-past : drop n (over values lent) ≡ drop n lent
  values-past = drop_at values (drop (length values) lent) n values_length ∙ ap (λ (m : ℕ). drop m lent) values_length

  pub values-whole : n ≤ length lent → length (over values lent) ≡ length lent
  values-whole h =
      length-append values (drop (length values) lent) ∙ omega (arith, values_length, length-drop (length values) lent)

module _ (s : List ℕ) (first : ℕ) (l : Slices) where
  abbrev ran : Run
  ran = run_of s first l.ids l.starts l.ends l.marks

  abbrev least : ℕ → ℕ
  least m = min (length l.ids) (min (length l.starts) (min (length l.ends) (min (length l.marks) m)))

  abbrev n : ℕ
  n = room s first l.ids l.starts l.ends l.marks

  on_sheet : (k : ℕ) → k < n → first + k < count_of s
  on_sheet k h = omega (arith, h)

  ran-done : fetch_fault s first ≡ 0 → ran ≡ handed_out (tabulate (row_at s) first n) l.ids l.starts l.ends l.marks
  ran-done = run-done s first l.ids l.starts l.ends l.marks

  ran-refused : (fetch_fault s first ≡ 0 → ⊥)
      → ran ≡ record { answer = fetch_fault s first; count = 0; ids = l.ids; starts = l.starts; ends = l.ends; marks = l.marks }
  ran-refused = run_none s first l.ids l.starts l.ends l.marks

  ran-answer : ran.answer ≡ fetch_fault s first
  unfolding handed_out
  ran-answer =
      by (eqb (fetch_fault s first) 0)
      (λ t. ap (λ (r : Run). r.answer) (ran-done (eqb-true (fetch_fault s first) 0 t)) ∙ sym (eqb-true (fetch_fault s first) 0 t))
      (λ t. ap (λ (r : Run). r.answer) (ran-refused (eqb-false (fetch_fault s first) 0 t)))

  module _ (answer count : ℕ) (after : Slices) (g : FetchesRun ran answer count after.ids after.starts after.ends after.marks) where
    is-run-fault : answer ≡ fetch_fault s first
    is-run-fault = g.answer_is ∙ ran-answer

    -- the slices that a result leaves
    abbrev left : Run → Slices
    left r = record { ids = r.ids; starts = r.starts; ends = r.ends; marks = r.marks }

    after_is : after ≡ left ran
    after_is = λ i. record { ids = g.ids_are i; starts = g.starts_are i; ends = g.ends_are i; marks = g.marks_are i }

    module _ (none : fetch_fault s first ≡ 0) where
      abbrev out : Slices
      out = left (handed_out (tabulate (row_at s) first n) l.ids l.starts l.ends l.marks)

      out-is : after ≡ out
      out-is = after_is ∙ ap left (ran-done none)

      count_is : count ≡ n
      unfolding handed_out
      count_is = g.count_is ∙ ap (λ (r : Run). r.count) (ran-done none) ∙ tab-length (row_at s) first n

      row_out : (k : ℕ) → k < n → row_in out k ≡ row_at s (first + k)
      unfolding handed_out
      row_out k h =
          λ i.
          record {
            id = value-at (λ (r : Row). r.id) s first n l.ids k (pos 0) h i;
            start = value-at (λ (r : Row). r.start) s first n l.starts k (pos 0) h i;
            end = value-at (λ (r : Row). r.end) s first n l.ends k (pos 0) h i;
            marks = value-at (λ (r : Row). r.marks) s first n l.marks k 0 h i;
          }

      past-out : past n out ≡ past n l
      unfolding handed_out
      past-out =
          λ i.
          record {
            ids = values-past (λ (r : Row). r.id) s first n l.ids i;
            starts = values-past (λ (r : Row). r.start) s first n l.starts i;
            ends = values-past (λ (r : Row). r.end) s first n l.ends i;
            marks = values-past (λ (r : Row). r.marks) s first n l.marks i;
          }

      -- there is room for n in each
      lengths-out : lengths out ≡ lengths l
      unfolding handed_out
      lengths-out =
          let ids = values-whole (λ (r : Row). r.id) s first n l.ids (omega arith) in
          let starts = values-whole (λ (r : Row). r.start) s first n l.starts (omega arith) in
          let ends = values-whole (λ (r : Row). r.end) s first n l.ends (omega arith) in
          let marks = values-whole (λ (r : Row). r.marks) s first n l.marks (omega arith) in
          λ i. ids i ∷ starts i ∷ ends i ∷ marks i ∷ []

    pub run-answered : RunAnswered s first l answer count after
    run-answered =
        record {
          one = rw is-run-fault (record-judged s first);
          refused_count = λ h. g.count_is ∙ ap (λ (r : Run). r.count) (ran-refused (λ z. h (is-run-fault ∙ z)));
          refused_slices = λ h. after_is ∙ ap left (ran-refused (λ z. h (is-run-fault ∙ z)));
          count_is = λ z. count_is (sym is-run-fault ∙ z) ∙ ap (λ (m : ℕ). least (m - first)) (sym (rows-length s));
          records_are =
              λ d z k h.
              let none = sym is-run-fault ∙ z in
              let few : k < n = omega (arith, count_is none) in
              ap (λ (o : Slices). row_in o k) (out-is none) ∙ row_out none k few ∙ sym (row_of s (first + k) d (on_sheet k few));
          others =
              λ z.
              let none = sym is-run-fault ∙ z in
              ap₂ past (count_is none) (out-is none) ∙ past-out none ∙ ap (λ (m : ℕ). past m l) (sym (count_is none));
          whole =
              by (eqb (fetch_fault s first) 0)
              (λ t. let none = eqb-true (fetch_fault s first) 0 t in ap lengths (out-is none) ∙ lengths-out none)
              (λ t. ap lengths (after_is ∙ ap left (ran-refused (eqb-false (fetch_fault s first) 0 t))));
        }

-- ---- "any bytes that it accepts as a whole are what the writer of that version would give for those records"

pub read-exact : (s : List ℕ) → AllBytes s → (answer version count : ℕ) → Summarises (summary_of s) answer version count → answer ≡ 0
    → sheet_of version (rows_of s) ≡ s
read-exact s b answer version count g z =
    ap (λ (v : ℕ). sheet_of v (rows_of s)) ((read-answered s answer version count g).version_is z)
    ∙ read-written s b (sym (is-fault s answer version count g) ∙ z)

-- there is one version, so sheets with the same records are the same bytes
pub same_bytes : (s t : List ℕ) → AllBytes s → AllBytes t → fault_of s ≡ 0 → fault_of t ≡ 0 → rows_of s ≡ rows_of t → s ≡ t
same_bytes s t b c e f r =
    let one = eqb-true (version_of s) 1 (accepted-is s e).version ∙ sym (eqb-true (version_of t) 1 (accepted-is t f).version) in
    same-sheet s t b c e f one r

-- ---- demand 3

pub same-readings : (s t : List ℕ) → s ≡ t → SameReadings s t
same-readings s t e =
    record {
      read =
          λ answer answer' version version' count count' g g'.
          let is = ap summary_of e in (
            g.answer_is ∙ ap (λ (r : Summary). r.answer) is ∙ sym g'.answer_is,
            (
              g.version_is ∙ ap (λ (r : Summary). r.version) is ∙ sym g'.version_is,
              g.count_is ∙ ap (λ (r : Summary). r.count) is ∙ sym g'.count_is,
            ),
          );
      fetched =
          λ number answer answer' id id' start start' end end' marks marks' g g'.
          let is = ap (λ (u : List ℕ). fetch_of u number) e in (
            g.answer_is ∙ ap (λ (r : Fetched). r.answer) is ∙ sym g'.answer_is,
            (
              g.id_is ∙ ap (λ (r : Fetched). r.row.id) is ∙ sym g'.id_is,
              (
                g.start_is ∙ ap (λ (r : Fetched). r.row.start) is ∙ sym g'.start_is,
                (g.end_is ∙ ap (λ (r : Fetched). r.row.end) is ∙ sym g'.end_is, g.marks_is ∙ ap (λ (r : Fetched). r.row.marks) is ∙ sym g'.marks_is),
              ),
            ),
          );
      run =
          λ first l answer answer' count count' after after' g g'.
          let is = ap (λ (u : List ℕ). ran u first l) e in (
            g.answer_is ∙ ap (λ (r : Run). r.answer) is ∙ sym g'.answer_is,
            (
              g.count_is ∙ ap (λ (r : Run). r.count) is ∙ sym g'.count_is,
              after_is s first l answer count after g ∙ ap (left s first l answer count after g) is ∙ sym (after_is t first l answer' count' after' g'),
            ),
          );
    }

pub no-records : (s : List ℕ) → fault_of s ≡ 0 → count_of s ≡ 0 → NoRecords s
unfolding fetch_fault
no-records s e n =
    record {
      none = λ answer version count g. g.count_is ∙ ap (λ (r : Summary). r.count) (summary-done s e) ∙ n;
      never = λ number answer id start end marks g. is-fetch-fault s number answer id start end marks g ∙ rw (e, n, le-leb 0 number (omega arith));
    }
