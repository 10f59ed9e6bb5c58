-- The loop over the months of a run, and what an event with one rule has beside the rule: its start.
use Prim.Native.Nat.{ℕ, suc, ◌+◌, ◌-◌, ◌<◌, ◌≤◌}
use mathlib.Core.Bool.{Bool, true, false}
use mathlib.Core.List.{List, ◌∷◌, ◌++◌, append_assoc, append-nil}
use mathlib.Core.Path.{◌≡◌, refl, sym, ap, ◌∙◌, subst}
use native.Mathlib.Omega.{arith}
use lib.Dec.{eqb}
use lib.ListN.{length, take, set, length-set}
use lib.Seq.{take-suc-set}
use borrow.Author.Tests.{eqb-true, eqb-false, eq-eqb, ne_eqb}
use Rattle.rule.proofs.Bools.{by}
use Rattle.track.specs.declared.Track.{Track}
use Rattle.track.specs.Inner.Runs.{has_day, EarlierOf}
use Rattle.track.proofs.PlainLaws.{has-early, has-over, has-picked}
use Rattle.matcher.specs.declared.Terms.{Terms}
use Rattle.matcher.specs.Inner.Walk.{picks_on_by}
use Rattle.window.specs.Inner.Lists.{list_in}
use Rattle.window.proofs.ListLaws.{list-parts, list_same, list-nothing, list-first}
use Rattle.listing.specs.Inner.Lists.{Listed, start_or}
use Rattle.listing.specs.Inner.Chunks.{Listable, Stopped}

-- ---- the loop: the days so far stand in the list

pub record DaysAt (p : ℕ → Bool) (first end : ℕ) (before : List ℕ) (at : ℕ) (after : List ℕ) (day count : ℕ) : Type 0 where
  pub low : first ≤ day
  pub high : day ≤ end
  pub size : length after ≡ length before
  pub few : count ≤ length before
  pub begun : day ≡ first → count ≡ at
  pub days : take count after ≡ take at before ++ list_in p first (day - first)

module _ (p : ℕ → Bool) (first end : ℕ) (before : List ℕ) (at : ℕ) where
  no-days : take at before ≡ take at before ++ list_in p first (first - first)
  unfolding list_in
  no-days =
      let none : first - first ≡ 0 = omega arith in
      rw none (sym (append-nil (take at before)))

  pub days-start : first ≤ end → at ≤ length before → DaysAt p first end before at before first at
  days-start order fits = record { low = omega arith; high = order; size = refl; few = fits; begun = λ same. refl; days = no-days }

  module _ (after : List ℕ) (day count : ℕ) (l : DaysAt p first end before at after day count) where
    -- the listing stops here
    pub days-stop : length after < count + 31 → Stopped p first end before at after count day
    days-stop full =
        record {
          size = l.size;
          few = l.few;
          low = l.low;
          high = l.high;
          ahead = λ room more.
              by (eqb day first)
              (λ e. absurd (omega (arith, l.begun (eqb-true day first e), l.size)))
              (λ e. omega (arith, l.low, eqb-false day first e));
          days = l.days;
        }

    pub days-end : end ≤ day → Stopped p first end before at after count end
    days-end over =
        let all : day ≡ end = omega (arith, l.high) in
        record {
          size = l.size;
          few = l.few;
          low = omega (arith, l.low);
          high = omega arith;
          ahead = λ room more. more;
          days = subst (λ (d : ℕ). take count after ≡ take at before ++ list_in p first (d - first)) all l.days;
        }

    more-days : (n : ℕ) → list_in p first (day + n - first) ≡ list_in p first (day - first) ++ list_in p day n
    more-days n =
        let rest : day + n - day ≡ n = omega arith in
        list-parts p first day (day + n) l.low (omega arith) ∙ ap (λ (k : ℕ). list_in p first (day - first) ++ list_in p day k) rest

    -- days that the rule has not
    pub days-pass : (x n : ℕ) → x ≡ day → day + n ≤ end → ((j : ℕ) → x ≤ j → j < x + n → p j ≡ false) → DaysAt p first end before at after (day + n) count
    days-pass x n here within none =
        record {
          low = omega (arith, l.low);
          high = within;
          size = l.size;
          few = l.few;
          begun = λ same. l.begun (omega (arith, l.low));
          days =
              l.days
              ∙ ap (λ (xs : List ℕ). take at before ++ xs)
              (sym (more-days n
              ∙ (ap (λ (xs : List ℕ). list_in p first (day - first) ++ xs) (list-nothing p day n (λ j low high. none j (omega arith) (omega arith)))
              ∙ append-nil (list_in p first (day - first)))));
        }

    -- a part of a month
    pub days-part : (x n : ℕ) (next : List ℕ) (place : ℕ) → x ≡ day → Listed p x n after count next place → 1 ≤ n → day + n ≤ end → n ≤ 31 → count + 31 ≤ length after
        → DaysAt p first end before at next (day + n) place
    days-part x n next place here part some within few room =
        record {
          low = omega (arith, l.low);
          high = within;
          size = part.size ∙ l.size;
          few = omega (arith, part.most, l.size);
          begun = λ same. absurd (omega (arith, l.low));
          days =
              part.days
              ∙ (ap (λ (xs : List ℕ). xs ++ list_in p x n) l.days
              ∙ (append_assoc (take at before) (list_in p first (day - first)) (list_in p x n)
              ∙ ap (λ (xs : List ℕ). take at before ++ xs) (ap (λ (d : ℕ). list_in p first (day - first) ++ list_in p d n) here ∙ sym (more-days n))));
        }

  pub days-rest : (after : List ℕ) (day count : ℕ) → DaysAt p first end before at after day count → (x n : ℕ) → x ≡ day → end ≤ day + n
      → ((j : ℕ) → x ≤ j → j < x + n → p j ≡ false) → Stopped p first end before at after count end
  days-rest after day count l x n here over none =
      days-end after (day + (end - day)) count
      (days-pass after day count l x (end - day) here (omega (arith, l.high)) (λ j low high. none j low (omega arith))) (omega (arith, l.high))

-- days that pass another test too
stopped-same : (p q : ℕ → Bool) (first end : ℕ) (before : List ℕ) (at : ℕ) (after : List ℕ) (count next : ℕ)
    → ((j : ℕ) → first ≤ j → j < next → p j ≡ q j) → Stopped p first end before at after count next → Stopped q first end before at after count next
stopped-same p q first end before at after count next same l =
    record {
      size = l.size;
      few = l.few;
      low = l.low;
      high = l.high;
      ahead = l.ahead;
      days = l.days ∙ ap (λ (xs : List ℕ). take at before ++ xs) (list_same p q first (next - first) (λ j least most. same j least (omega (arith, l.low))));
    }

-- ---- the days of a rule that ends

module _ (t : Track) (row : List Bool) (begin from end to : ℕ) (e : EarlierOf end t.last to) (low : begin ≤ from) where
  behind : (d : ℕ) → to ≤ d → d < end → has_day t row begin d ≡ false
  behind d over less = has-over t row begin d (e.behind d over less)

  picked : (d : ℕ) → from ≤ d → d < to → picks_on_by t.terms row d ≡ has_day t row begin d
  picked d least most = has-picked t row begin d (omega arith) (omega (arith, e.second)) (picks_on_by t.terms row d) refl

  pub rule-none : to ≤ from → from ≤ end → (before : List ℕ) (at : ℕ) → at ≤ length before → Stopped (has_day t row begin) from end before at before at end
  rule-none over order before at fits =
      record {
        size = refl;
        few = fits;
        low = order;
        high = omega arith;
        ahead = λ room more. more;
        days =
            sym (ap (λ (xs : List ℕ). take at before ++ xs) (list-nothing (has_day t row begin) from (end - from) (λ j least most. behind j (omega arith) (omega arith)))
            ∙ append-nil (take at before));
      }

  module _ (before : List ℕ) (at : ℕ) (after : List ℕ) (count next : ℕ) (l : Stopped (picks_on_by t.terms row) from to before at after count next) where
    pub rule-stops : next < to → from < to → Stopped (has_day t row begin) from end before at after count next
    rule-stops less more =
        let s = stopped-same (picks_on_by t.terms row) (has_day t row begin) from to before at after count next (λ j least most. picked j least (omega arith)) l in
        record { size = s.size; few = s.few; low = s.low; high = omega (arith, e.first); ahead = λ room some. s.ahead room more; days = s.days }

    pub rule-ends : to ≤ next → Stopped (has_day t row begin) from end before at after count end
    rule-ends done =
        let all : next ≡ to = omega (arith, l.high) in
        let least = l.low in
        let most = e.first in
        let whole : list_in (has_day t row begin) from (end - from) ≡ list_in (picks_on_by t.terms row) from (next - from) =
        list-parts (has_day t row begin) from next end least (omega arith)
        ∙ (ap (λ (xs : List ℕ). list_in (has_day t row begin) from (next - from) ++ xs)
        (list-nothing (has_day t row begin) next (end - next) (λ j low high. behind j (omega arith) (omega arith)))
        ∙ (append-nil (list_in (has_day t row begin) from (next - from))
        ∙ list_same (has_day t row begin) (picks_on_by t.terms row) from (next - from) (λ j low high. sym (picked j low (omega arith))))) in
        record {
          size = l.size;
          few = l.few;
          low = omega arith;
          high = omega arith;
          ahead = λ room more. more;
          days = l.days ∙ ap (λ (xs : List ℕ). take at before ++ xs) (sym whole);
        }

-- ---- with the start

module _ (t : Track) (row : List Bool) (begin first end : ℕ) where
  start-other : (d : ℕ) → (d ≡ begin → ⊥) → start_or t row begin d ≡ has_day t row begin d
  unfolding start_or
  start-other d other = rw (ne_eqb d begin other)

  start-own : start_or t row begin begin ≡ true
  unfolding start_or
  start-own = rw (eq-eqb begin begin refl)

  start-early : (d : ℕ) → d < begin → start_or t row begin d ≡ false
  start-early d h = start-other d (λ same. omega arith) ∙ sym (has-early t row begin d h)

  pub start-before : begin < first → (before : List ℕ) (at : ℕ) (after : List ℕ) (count next : ℕ) → Stopped (has_day t row begin) first end before at after count next
      → Stopped (start_or t row begin) first end before at after count next
  start-before early before at after count next l =
      stopped-same (has_day t row begin) (start_or t row begin) first end before at after count next (λ j low high. sym (start-other j (λ same. omega arith))) l

  pub start-behind : first ≤ end → end ≤ begin → (before : List ℕ) → Stopped (start_or t row begin) first end before 0 before 0 end
  start-behind order late before =
      record {
        size = refl;
        few = omega arith;
        low = order;
        high = omega arith;
        ahead = λ room more. more;
        days = sym (list-nothing (start_or t row begin) first (end - first) (λ j low high. start-early j (omega arith)));
      }

  from_start : first ≤ begin → (next : ℕ) → begin + 1 ≤ next
      → list_in (start_or t row begin) first (next - first) ≡ begin ∷ list_in (has_day t row begin) (begin + 1) (next - (begin + 1))
  from_start low next high =
      let parts : next - begin ≡ suc (next - (begin + 1)) = omega arith in
      let one : suc begin ≡ begin + 1 = omega arith in
      list-parts (start_or t row begin) first begin next low (omega arith)
      ∙ (ap (λ (xs : List ℕ). xs ++ list_in (start_or t row begin) begin (next - begin))
      (list-nothing (start_or t row begin) first (begin - first) (λ j least most. start-early j (omega arith)))
      ∙ (ap (list_in (start_or t row begin) begin) parts
      ∙ (list-first (start_or t row begin) begin (next - (begin + 1)) start-own
      ∙ ap (λ (xs : List ℕ). begin ∷ xs)
      (ap (λ (d : ℕ). list_in (start_or t row begin) d (next - (begin + 1))) one
      ∙ list_same (start_or t row begin) (has_day t row begin) (begin + 1) (next - (begin + 1)) (λ j least most. start-other j (λ same. omega arith))))))

  pub start-within : first ≤ begin → (before after : List ℕ) (count next : ℕ) → 1 ≤ length before
      → Stopped (has_day t row begin) (begin + 1) end (set before 0 begin) 1 after count next
      → Stopped (start_or t row begin) first end before 0 after count next
  start-within low before after count next room l =
      let size : length (set before 0 begin) ≡ length before = length-set before 0 begin in
      record {
        size = l.size ∙ size;
        few = omega (arith, l.few);
        low = omega (arith, l.low);
        high = l.high;
        ahead = λ month more. omega (arith, l.low);
        days =
            l.days
            ∙ (ap (λ (xs : List ℕ). xs ++ list_in (has_day t row begin) (begin + 1) (next - (begin + 1))) (take-suc-set before 0 begin room) ∙ sym (from_start low next l.low));
      }

-- the start is written first
pub start-asks : (t : Terms) (row : List Bool) (begin first end : ℕ) (days : List ℕ) → Listable t row first end 1 (length days) → first ≤ begin → begin < end
    → Listable t row (begin + 1) end 1 (length (set days 0 begin)) × (begin ≤ begin + 1)
start-asks t row begin first end days l low high =
    let size : length (set days 0 begin) ≡ length days = length-set days 0 begin in (
      record {
        by_months = l.by_months;
        row_length = l.row_length;
        week = l.week;
        low = omega (arith, l.low);
        order = omega arith;
        high = l.high;
        place = omega (arith, l.place);
        small = omega (arith, l.small);
      },
      omega arith,
    )

pub start-size : (days : List ℕ) (n begin : ℕ) → n ≡ length (set days 0 begin) → n ≡ length days
start-size days n begin same = same ∙ length-set days 0 begin
