-- The reader's calls: what each hands back where it is refused, and where it is not.
use Rattle.std.specs.Prelude.{if◌then◌else◌}
use Prim.Native.Nat.{ℕ, ◌+◌, ◌*◌, ◌-◌, ◌<◌, ◌≤◌, min}
use mathlib.Core.Bool.{true}
use mathlib.Core.List.{List, ◌++◌, map}
use mathlib.Core.Path.{◌≡◌, refl, sym, ap, ◌∙◌}
use native.Mathlib.Nat.{zero-add}
use native.Mathlib.Omega.{arith}
use lib.Dec.{leb, eqb}
use lib.IntN.{ℤ, pos}
use lib.ListN.{length, take, drop}
use borrow.Author.Tests.{eqb-true, eqb-false, leb-false, eq-eqb, ne_eqb}
use Rattle.rule.proofs.Bools.{by}
use Rattle.sheet.specs.Runs.{tabulate}
use Rattle.sheet.specs.Records.{Row, id_at, start_at, end_at, marks_at, row_at}
use Rattle.sheet.specs.Reading.{version_of, count_of, rows_of, fault_of}
use Rattle.sheet.specs.Fetching.{summary_of, fetch_fault, fetch_of, over, handed_out, run_of, Summarises, Fetches, FetchesRun}
use Rattle.sheet.proofs.RunLaws.{tab-length, tab-same, tab-map, tab-take, tab-past}
use Rattle.sheet.proofs.Accepted.{long-enough, rows_before}

-- ---- a record that is not refused is on the sheet

module _ (s : List ℕ) (number : ℕ) (e : fetch_fault s number ≡ 0) where
  abbrev last : ℕ
  last = if leb (count_of s) number then 41 else 0

  tests : (eqb (fault_of s) 0 ≡ true) × (last ≡ 0)
  unfolding fetch_fault
  tests = by (eqb (fault_of s) 0) (λ t. (t, rw t at e)) (λ f. absurd (eqb-false (fault_of s) 0 f (rw f at e)))

  pub sheet-accepted : fault_of s ≡ 0
  sheet-accepted = eqb-true (fault_of s) 0 tests.0

  pub number-below : number < count_of s
  number-below = leb-false (count_of s) number (long-enough (leb (count_of s) number) 0 41 (omega arith) tests.1).0

  pub record-inside : 28 * number + 28 ≤ length s
  record-inside = omega (arith, rows_before s sheet-accepted, number-below)

-- ---- the whole sheet

module _ (s : List ℕ) where
  pub summary-done : fault_of s ≡ 0 → summary_of s ≡ record { answer = 0; version = version_of s; count = count_of s }
  unfolding summary_of
  summary-done h = rw h

  pub summary-none : (fault_of s ≡ 0 → ⊥) → summary_of s ≡ record { answer = fault_of s; version = 0; count = 0 }
  unfolding summary_of
  summary-none h = rw (ne_eqb (fault_of s) 0 h)

  pub summary-refused : (r : ℕ) → r ≡ fault_of s → (r ≡ 0 → ⊥) → Summarises (summary_of s) r 0 0
  summary-refused r e h = rw (summary-none (λ z. h (e ∙ z))) (record { answer_is = e; version_is = refl; count_is = refl })

  pub summary-read : fault_of s ≡ 0 → (v n : ℕ) → v ≡ version_of s → n ≡ count_of s → Summarises (summary_of s) 0 v n
  summary-read h v n e f = rw (summary-done h) (record { answer_is = refl; version_is = e; count_is = f })

-- ---- one record

module _ (s : List ℕ) (number : ℕ) where
  pub fetch-done : fetch_fault s number ≡ 0 → fetch_of s number ≡ record { answer = 0; row = row_at s number }
  unfolding fetch_of
  fetch-done h = rw h

  pub fetch-none : (fetch_fault s number ≡ 0 → ⊥)
      → fetch_of s number ≡ record { answer = fetch_fault s number; row = record { id = pos 0; start = pos 0; end = pos 0; marks = 0 } }
  unfolding fetch_of
  fetch-none h = rw (ne_eqb (fetch_fault s number) 0 h)

  pub fetch-refused : (r : ℕ) → r ≡ fetch_fault s number → (r ≡ 0 → ⊥) → Fetches (fetch_of s number) r (pos 0) (pos 0) (pos 0) 0
  fetch-refused r e h =
      rw (fetch-none (λ z. h (e ∙ z))) (record { answer_is = e; id_is = refl; start_is = refl; end_is = refl; marks_is = refl })

  pub fetch-read : fetch_fault s number ≡ 0 → (id start end : ℤ) (marks : ℕ) → id ≡ id_at s number → start ≡ start_at s number → end ≡ end_at s number
      → marks ≡ marks_at s number → Fetches (fetch_of s number) 0 id start end marks
  unfolding row_at
  fetch-read z id start end marks a b c d =
      rw (fetch-done z) (record { answer_is = refl; id_is = a; start_is = b; end_is = c; marks_is = d })

-- ---- a run of records

-- the values of a field come first, and what lies past them stays
stored : {A : Type 0} (f : Row → A) (g : ℕ → A) (s : List ℕ) → ((k : ℕ) → f (row_at s k) ≡ g k) → (k n : ℕ) (lent : List A)
    → tabulate g k n ++ drop n lent ≡ over (map f (tabulate (row_at s) k n)) lent
stored f g s same k n lent =
    let values : tabulate g k n ≡ map f (tabulate (row_at s) k n) = sym (tab-map f (row_at s) k n ∙ tab-same (λ i. f (row_at s i)) g k n (λ j p q. same j)) in
    ap (λ (m : ℕ). tabulate g k n ++ drop m lent) (sym (tab-length g k n)) ∙ ap (λ (l : List _). over l lent) values

module _ (s : List ℕ) (first : ℕ) (ids starts ends : List ℤ) (marks : List ℕ) where
  pub run_none : (fetch_fault s first ≡ 0 → ⊥)
      → run_of s first ids starts ends marks ≡ record { answer = fetch_fault s first; count = 0; ids = ids; starts = starts; ends = ends; marks = marks }
  unfolding run_of
  run_none h = rw (ne_eqb (fetch_fault s first) 0 h)

  pub run-refused : (r : ℕ) → r ≡ fetch_fault s first → (r ≡ 0 → ⊥) → FetchesRun (run_of s first ids starts ends marks) r 0 ids starts ends marks
  run-refused r e h =
      rw (run_none (λ z. h (e ∙ z)))
      (record { answer_is = e; count_is = refl; ids_are = refl; starts_are = refl; ends_are = refl; marks_are = refl })

  -- how many there is room for
  abbrev pub room : ℕ
  room = min (length ids) (min (length starts) (min (length ends) (min (length marks) (count_of s - first))))

  rows_are : take (length ids) (take (length starts) (take (length ends) (take (length marks) (drop first (rows_of s))))) ≡ tabulate (row_at s) first room
  unfolding rows_of
  rows_are =
      rw (
        tab-past (row_at s) 0 (count_of s) first,
        zero-add first,
        tab-take (row_at s) first _ (length marks),
        tab-take (row_at s) first _ (length ends),
        tab-take (row_at s) first _ (length starts),
        tab-take (row_at s) first _ (length ids),
      )

  id-at : (k : ℕ) → (row_at s k).id ≡ id_at s k
  unfolding row_at
  id-at k = refl

  start-at : (k : ℕ) → (row_at s k).start ≡ start_at s k
  unfolding row_at
  start-at k = refl

  end-at : (k : ℕ) → (row_at s k).end ≡ end_at s k
  unfolding row_at
  end-at k = refl

  marks-at : (k : ℕ) → (row_at s k).marks ≡ marks_at s k
  unfolding row_at
  marks-at k = refl

  -- what it hands out, as a run of records
  pub run-done : fetch_fault s first ≡ 0 → run_of s first ids starts ends marks ≡ handed_out (tabulate (row_at s) first room) ids starts ends marks
  unfolding run_of
  run-done z = rw (eq-eqb (fetch_fault s first) 0 z, rows_are)

  pub run-read : fetch_fault s first ≡ 0 → (n : ℕ) → n ≡ room → (ids' starts' ends' : List ℤ) (marks' : List ℕ)
      → ids' ≡ tabulate (id_at s) first n ++ drop n ids → starts' ≡ tabulate (start_at s) first n ++ drop n starts
      → ends' ≡ tabulate (end_at s) first n ++ drop n ends → marks' ≡ tabulate (marks_at s) first n ++ drop n marks
      → FetchesRun (run_of s first ids starts ends marks) 0 n ids' starts' ends' marks'
  unfolding handed_out
  run-read z n is ids' starts' ends' marks' a b c d =
      rw (run-done z, ← is)
      (record {
        answer_is = refl;
        count_is = sym (tab-length (row_at s) first n);
        ids_are = a ∙ stored (λ (r : Row). r.id) (id_at s) s id-at first n ids;
        starts_are = b ∙ stored (λ (r : Row). r.start) (start_at s) s start-at first n starts;
        ends_are = c ∙ stored (λ (r : Row). r.end) (end_at s) s end-at first n ends;
        marks_are = d ∙ stored (λ (r : Row). r.marks) (marks_at s) s marks-at first n marks;
      })
