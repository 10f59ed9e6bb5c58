-- The lists of the kinds of months: one that is written, and the others that stay.
use Prim.Native.Nat.{ℕ, ◌+◌, ◌-◌, ◌<◌, ◌≤◌}
use mathlib.Core.Bool.{Bool, false}
use mathlib.Core.List.{List, ◌++◌}
use mathlib.Core.Path.{◌≡◌, sym, ap, ◌∙◌, subst}
use native.Mathlib.Omega.{arith}
use lib.Dec.{ltb}
use lib.ListN.{length, take, drop, get_or, set, length-set, length-append, replicate, length-replicate, get_or-replicate}
use lib.Seq.{length-take-le, get_or-take, get_or-drop, get_or-append-add, get_or-set_same, get_or-set_other}
use borrow.Author.Tests.{ltb-true, ltb-false}
use Rattle.rule.proofs.Bools.{by}
use Rattle.months.specs.Inner.Layout.{kinds_size, kind_size, last_at}
use Rattle.window.specs.Inner.Lists.{list_in}
use Rattle.rule.proofs.Counting.{count_most}
use Rattle.window.proofs.ListLaws.{list_same, list_length}
use Rattle.months.specs.Inner.Kinds.{Kind, picks_in}
use Rattle.months.specs.Inner.Rows.{row_of, Kept, KeptAt}
use Rattle.listing.specs.Inner.Lists.{hit_on, Collected}
use Rattle.listing.specs.Inner.Kinds.{kind_days, Held, KeptLists, ListAt, Wrote}

-- ---- a piece of a list

pub piece-at : {A : Type 0} (l : List A) (at n k : ℕ) (d : A) → k < n → get_or (take (at + n - at) (drop at l)) k d ≡ get_or l (at + k) d
piece-at l at n k d h = get_or-take (at + n - at) (drop at l) k d (omega arith) ∙ get_or-drop at l k d

-- ---- one list

module _ (row : List Bool) (before : List ℕ) (at : ℕ) (mid : List ℕ) (end : ℕ) (c : Collected row 0 before at mid end) (few : length row ≤ 31)
    (room : at + kind_size ≤ length before) where
  xs : List ℕ
  xs = list_in (hit_on row 0) 0 (length row)

  front : length (take at before) ≡ at
  front = length-take-le at before (omega arith)

  count : end ≡ at + length xs
  unfolding xs
  count =
      sym (length-take-le end mid (omega (arith, c.listed.most, c.listed.size)))
      ∙ (ap length c.listed.days ∙ (length-append (take at before) xs ∙ ap (λ (n : ℕ). n + length xs) front))

  there : (k : ℕ) → k < length xs → get_or mid (at + k) 0 ≡ get_or xs k 0
  unfolding xs
  there k h =
      let whole = count in
      sym (get_or-take end mid (at + k) 0 (omega arith))
      ∙ (ap (λ (l : List ℕ). get_or l (at + k) 0) c.listed.days
      ∙ (ap (λ (n : ℕ). get_or (take at before ++ xs) (n + k) 0) (sym front) ∙ get_or-append-add (take at before) xs k 0))

  pub list_written : (number : ℕ) → number ≡ end - at + 1 → Wrote row before at (set mid (at + last_at) number)
  unfolding xs
  list_written number is =
      let whole = count in
      let most = c.listed.most in
      let size = c.listed.size in
      record {
        size = length-set mid (at + last_at) number ∙ c.listed.size;
        held =
            record {
              number = get_or-set_same mid (at + last_at) number 0 (omega arith) ∙ omega arith;
              each = λ k h. get_or-set_other mid (at + last_at) (at + k) number 0 (λ same. omega arith) ∙ there k h;
            };
        low = λ j h. get_or-set_other mid (at + last_at) j number 0 (λ same. omega arith) ∙ c.low j h;
        high = λ j h. get_or-set_other mid (at + last_at) j number 0 (λ same. omega arith) ∙ c.high j (omega arith);
      }

-- ---- the lists that are kept

pub lists-none : (placed : Bool) (fl : List Bool) → KeptLists placed fl (replicate kinds_size 0)
lists-none placed fl =
    record {
      size = length-replicate {A = ℕ} kinds_size 0;
      list = λ w days kind more. absurd (omega (arith, more, get_or-replicate {A = ℕ} kinds_size (row_of w days + last_at) 0 0 (omega (arith, kind.week, kind.low, kind.high))));
    }

held-moves : (xs before after : List ℕ) (at : ℕ) → length xs ≤ 31 → ((j : ℕ) → at ≤ j → j < at + kind_size → get_or after j 0 ≡ get_or before j 0) → Held xs before at → Held xs after at
held-moves xs before after at few same h =
    record {
      number = same (at + last_at) (omega arith) (omega arith) ∙ h.number;
      each = λ k less. same (at + k) (omega arith) (omega arith) ∙ h.each k less;
    }

pub kind-few : (placed : Bool) (fl : List Bool) (w days : ℕ) → length (kind_days placed fl w days) ≤ days
unfolding kind_days
kind-few placed fl w days = omega (arith, list_length (picks_in placed fl w days) 0 days, count_most (picks_in placed fl w days) 0 days)

-- a kind whose list was there already
pub list-already : (placed : Bool) (fl : List Bool) (w days : ℕ) → Kind w days → (rows : List Bool) (lists : List ℕ) → Kept placed fl rows → KeptLists placed fl lists
    → 0 < get_or lists (row_of w days + last_at) 0 → ListAt placed fl w days rows lists (row_of w days)
list-already placed fl w days kind rows lists kept held more =
    record {
      rows_kept = kept;
      kept = held;
      within = omega (arith, kind.week, kind.low, kind.high);
      held = held.list w days kind more;
    }

-- a row of answers, listed, is its kind's list
module _ (placed : Bool) (fl : List Bool) (weekday days : ℕ) (kind : Kind weekday days) (rows row : List Bool) (from : ℕ) (answers : KeptAt placed fl weekday days rows from)
    (size : length row ≡ days) (part : (k : ℕ) → k < days → get_or row k false ≡ get_or rows (from + k) false) where
  row_listed : list_in (hit_on row 0) 0 (length row) ≡ kind_days placed fl weekday days
  unfolding hit_on kind_days
  row_listed =
      ap (list_in (hit_on row 0) 0) size
      ∙ list_same (hit_on row 0) (picks_in placed fl weekday days) 0 days
      (λ j low high. ap (λ (i : ℕ). get_or row i false) (omega arith) ∙ (part j (omega arith) ∙ answers.row j (omega arith)))

  module _ (before after : List ℕ) (kept : KeptLists placed fl before) (wrote : Wrote row before (row_of weekday days) after) where
    own : Held (kind_days placed fl weekday days) after (row_of weekday days)
    own = subst (λ (l : List ℕ). Held l after (row_of weekday days)) row_listed wrote.held

    each : (w n : ℕ) → Kind w n → 0 < get_or after (row_of w n + last_at) 0 → Held (kind_days placed fl w n) after (row_of w n)
    each w n other more =
        by (ltb (row_of w n) (row_of weekday days))
        (λ b.
        let less = ltb-true (row_of w n) (row_of weekday days) b in
        moved (λ j low high. wrote.low j (omega (arith, other.week, other.low, other.high, kind.week, kind.low, kind.high))))
        (λ b.
        by (ltb (row_of weekday days) (row_of w n))
        (λ d.
        let less = ltb-true (row_of weekday days) (row_of w n) d in
        moved (λ j low high. wrote.high j (omega (arith, other.week, other.low, other.high, kind.week, kind.low, kind.high))))
        (λ d.
        let low = ltb-false (row_of w n) (row_of weekday days) b in
        let high = ltb-false (row_of weekday days) (row_of w n) d in
        let same-days : days ≡ n = omega (arith, kind.week, kind.low, other.week, other.low) in
        let same-weekday : weekday ≡ w = omega (arith, kind.week, kind.low, other.week, other.low) in
        subst (λ (v : ℕ). Held (kind_days placed fl v n) after (row_of v n)) same-weekday
        (subst (λ (m : ℕ). Held (kind_days placed fl weekday m) after (row_of weekday m)) same-days own)))
      where
        moved : ((j : ℕ) → row_of w n ≤ j → j < row_of w n + kind_size → get_or after j 0 ≡ get_or before j 0) → Held (kind_days placed fl w n) after (row_of w n)
        moved same =
            held-moves (kind_days placed fl w n) before after (row_of w n) (omega (arith, kind-few placed fl w n, other.high)) same
            (kept.list w n other (subst (λ (v : ℕ). 0 < v) (same (row_of w n + last_at) (omega arith) (omega arith)) more))

    pub list-kept : ListAt placed fl weekday days rows after (row_of weekday days)
    list-kept =
        record {
          rows_kept = answers.kept;
          kept = record { size = wrote.size ∙ kept.size; list = each };
          within = omega (arith, kind.week, kind.low, kind.high);
          held = own;
        }
