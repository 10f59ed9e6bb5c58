-- Writing a row of answers, counting them, and keeping the rows of all kinds.
use Rattle.std.specs.Prelude.{if◌then◌else◌}
use Prim.Native.Nat.{ℕ, ◌+◌, ◌<◌, ◌≤◌}
use mathlib.Core.Bool.{Bool, true, false, false≢true}
use mathlib.Core.List.{List}
use mathlib.Core.Path.{◌≡◌, refl, sym, ap, ◌∙◌, subst}
use native.Mathlib.Omega.{arith}
use lib.Dec.{ltb}
use lib.ListN.{length, get_or, set, replicate, length-set, length-replicate, get_or-replicate}
use lib.Seq.{get_or-set_same, get_or-set_other}
use borrow.Author.Tests.{ltb-true, ltb-false}
use Rattle.rule.specs.Lists.{count_in}
use Rattle.rule.proofs.Bools.{by}
use Rattle.rule.proofs.Counting.{count-split, count_most, count-place, count_same}
use Rattle.matcher.specs.Inner.Flags.{Places, named}
use Rattle.matcher.specs.Inner.Layout.{positions_at, positions_back, row_size}
use Rattle.months.specs.Inner.Kinds.{stays_in, chosen_in, picks_in}
use Rattle.months.specs.Inner.Layout.{last_at, ready_at, answers_size}
use Rattle.months.specs.Inner.Rows.{answer_at, Wrote, row_of, Kept}

-- ---- writing

module _ (p : ℕ → Bool) (before : List Bool) (at : ℕ) where
  pub wrote_none : Wrote p before at 0 before
  wrote_none = record { size = refl; here = λ k h. absurd (omega arith); low = λ j h. refl; high = λ j h. refl }

  pub wrote-more : (n : ℕ) (rows : List Bool) (b : Bool) → Wrote p before at n rows → at + n < length rows → b ≡ p n
      → Wrote p before at (n + 1) (set rows (at + n) b)
  wrote-more n rows b w within is =
      record {
        size = length-set rows (at + n) b ∙ w.size;
        here = λ k h.
            by (ltb k n)
            (λ e. get_or-set_other rows (at + n) (at + k) b false (λ same. omega (arith, ltb-true k n e)) ∙ w.here k (ltb-true k n e))
            (λ e.
            let same : n ≡ k = omega (arith, ltb-false k n e) in
            subst (λ (i : ℕ). get_or (set rows (at + n) b) (at + i) false ≡ p i) same (get_or-set_same rows (at + n) b false within ∙ is));
        low = λ j h. get_or-set_other rows (at + n) j b false (λ same. omega arith) ∙ w.low j h;
        high = λ j h. get_or-set_other rows (at + n) j b false (λ same. omega arith) ∙ w.high j (omega arith);
      }

-- written over
pub wrote-again : (p q : ℕ → Bool) (before between after : List Bool) (at n : ℕ) → Wrote p before at n between → Wrote q between at n after
    → Wrote q before at n after
wrote-again p q before between after at n v w =
    record {
      size = w.size ∙ v.size;
      here = w.here;
      low = λ j h. w.low j h ∙ v.low j h;
      high = λ j h. w.high j h ∙ v.high j h;
    }

pub wrote-same : (p q : ℕ → Bool) (before after : List Bool) (at n : ℕ) → Wrote p before at n after → ((k : ℕ) → k < n → p k ≡ q k)
    → Wrote q before at n after
wrote-same p q before after at n w same =
    record { size = w.size; here = λ k h. w.here k h ∙ same k h; low = w.low; high = w.high }

-- ---- counting

count-one : (p : ℕ → Bool) (n : ℕ) → count_in p (0 + n) 1 ≡ (if p n then 1 else 0)
unfolding count_in
count-one p n = let here : 0 + n ≡ n = omega arith in rw here (omega arith)

pub count_next : (p : ℕ → Bool) (n : ℕ) → count_in p 0 (n + 1) ≡ count_in p 0 n + (if p n then 1 else 0)
count_next p n = count-split p 0 n 1 ∙ ap (λ (k : ℕ). count_in p 0 n + k) (count-one p n)

-- ---- choosing

module _ (fl : List Bool) (p : ℕ → Bool) (n k seen total : ℕ) (more : k < n) (is_seen : seen ≡ count_in p 0 k) (is-total : total ≡ count_in p 0 n) where
  pub chosen-place : n ≤ 31 → length fl ≡ row_size → p k ≡ true → Places (length fl) positions_at positions_back (seen + 1) total
  chosen-place few size e =
      let most = count_most p 0 n in
      let here : p (0 + k) ≡ true = ap p (omega arith) ∙ e in
      let place = count-place p 0 k n here more in
      record {
        low = omega arith;
        high = omega (arith, place);
        small = omega arith;
        on_row = omega (arith, most);
        back_row = omega (arith, most);
        row = omega arith;
      }

  pub chosen_is : (b stays : Bool) → stays ≡ p k → b ≡ (if stays then named fl positions_at positions_back (seen + 1) total else false) → b ≡ chosen_in fl p n k
  unfolding chosen_in
  chosen_is b stays same is = is ∙ rw (same, is_seen, is-total)

-- the positions of the days that stay
pub chosen-same : (fl : List Bool) (p q : ℕ → Bool) (n : ℕ) → ((k : ℕ) → k < n → p k ≡ q k) → (k : ℕ) → k < n → chosen_in fl p n k ≡ chosen_in fl q n k
unfolding chosen_in
chosen-same fl p q n same k h =
    rw (
      same k h,
      count_same p q 0 k (λ j low high. same j (omega arith)),
      count_same p q 0 n (λ j low high. same j (omega arith)),
    )

-- ---- the rows that are kept

pub kept-none : (placed : Bool) (fl : List Bool) → Kept placed fl (replicate answers_size false)
kept-none placed fl =
    record {
      size = length-replicate answers_size false;
      ready = λ e. absurd (false≢true (sym (get_or-replicate answers_size ready_at false false (omega arith)) ∙ e));
      row = λ w days kind e. absurd (false≢true (sym (get_or-replicate answers_size (row_of w days + last_at) false false (omega (arith, kind.week, kind.low, kind.high))) ∙ e));
    }

-- ---- the row of a month

pub wrote-chosen : (fl : List Bool) (weekday days at : ℕ) (before between after : List Bool) → Wrote (stays_in fl weekday days) before at days between
    → Wrote (chosen_in fl (answer_at between at) days) between at days after → Wrote (picks_in true fl weekday days) before at days after
unfolding answer_at picks_in
wrote-chosen fl weekday days at before between after v w =
    wrote-same _ _ before after at days (wrote-again _ _ before between after at days v w) (chosen-same fl _ _ days v.here)

pub wrote-plain : (fl : List Bool) (weekday days at : ℕ) (before after : List Bool) → Wrote (stays_in fl weekday days) before at days after
    → Wrote (picks_in false fl weekday days) before at days after
unfolding picks_in
wrote-plain fl weekday days at before after w = wrote-same _ _ before after at days w (λ k h. refl)
