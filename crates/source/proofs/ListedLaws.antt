-- Listed days are handed over as ids: the listing may stop at any day.
use Rattle.std.specs.Prelude.{if◌then◌else◌}
use Prim.Native.Nat.{ℕ, zero, suc, min, ◌+◌, ◌-◌, ◌*◌, ◌/◌, ◌%◌, ◌<◌, ◌≤◌}
use mathlib.Core.Bool.{Bool, false}
use mathlib.Core.List.{List, [], ◌∷◌, ◌++◌, map}
use mathlib.Core.Path.{◌≡◌, refl, sym, ap, ◌∙◌, subst}
use native.Mathlib.Omega.{arith}
use native.Mathlib.Numerals.{add-one}
use lib.Dec.{eqb, ltb}
use lib.ListN.{length, take, get_or, set, replicate, length-set, length-map, length-replicate}
use lib.Seq.{take-take, take-suc, take-suc-set, take-length, length-take-le}
use borrow.Author.Tests.{ltb-true, ltb-false, lt-ltb, le-ltb}
use Rattle.rule.specs.Gives.{end_day, on_day}
use Rattle.rule.proofs.Bools.{by}
use Rattle.matcher.specs.Inner.Layout.{row_size, list_size}
use Rattle.track.specs.declared.Track.{Track}
use Rattle.dates.specs.declared.Dates.{Dates}
use Rattle.dates.specs.Inner.Tracked.{Weeks}
use Rattle.dates.specs.Inner.Dates.{Whole, dates_in}
use Rattle.window.specs.Inner.Next.{day_from}
use Rattle.window.specs.Inner.Lists.{list_in}
use Rattle.window.specs.Inner.Handed.{Handed}
use Rattle.window.proofs.HitLaws.{FromDay, from-day, day-order}
use Rattle.listing.specs.Inner.Lists.{start_or}
use Rattle.listing.specs.Inner.Parts.{ByMonths}
use Rattle.listing.specs.Inner.Chunks.{Listable, Stopped}
use Rattle.listing.proofs.SecondLaws.{days-listed, timed}
use Rattle.source.specs.Inner.Listed.{Plain, Listing, ListedWindow, Seconds, HandedUnnamed, goes_on}

-- ---- the loop over the days

pub record SecondsAt (start : ℕ) (days before after : List ℕ) (k : ℕ) : Type 0 where
  pub within : k ≤ length days
  pub size : length after ≡ length before
  pub ids : take k after ≡ take k (map (on_day start) days)

module _ (start : ℕ) (days before : List ℕ) where
  pub seconds-start : SecondsAt start days before before 0
  seconds-start = record { within = omega arith; size = refl; ids = refl }

  value-at : (l : List ℕ) (i : ℕ) → i < length l → get_or (map (on_day start) l) i 0 ≡ on_day start (get_or l i 0)
  value-at [] i h = absurd (omega arith)
  value-at (d ∷ l) zero h = refl
  value-at (d ∷ l) (suc i) h = value-at l i (omega arith)

  pub seconds-one : (after : List ℕ) (k : ℕ) → SecondsAt start days before after k → k < length days → length days ≤ length before
      → SecondsAt start days before (set after k (on_day start (get_or days k 0))) (k + 1)
  seconds-one after k s less room =
      let here : get_or (map (on_day start) days) k 0 ≡ on_day start (get_or days k 0) = value-at days k less in
      let many : k < length (map (on_day start) days) = subst (λ (n : ℕ). k < n) (sym (length-map days (on_day start))) less in
      record {
        within = omega arith;
        size = length-set after k (on_day start (get_or days k 0)) ∙ s.size;
        ids =
            ap (λ (n : ℕ). take n (set after k (on_day start (get_or days k 0)))) (add-one k)
            ∙ (take-suc-set after k (on_day start (get_or days k 0)) (omega (arith, s.size))
            ∙ (ap (λ (l : List ℕ). l ++ (on_day start (get_or days k 0) ∷ [])) s.ids
            ∙ (ap (λ (x : ℕ). take k (map (on_day start) days) ++ (x ∷ [])) (sym here)
            ∙ (sym (take-suc (map (on_day start) days) k 0 many) ∙ ap (λ (n : ℕ). take n (map (on_day start) days)) (sym (add-one k))))));
      }

  pub seconds-end : (after : List ℕ) (k : ℕ) → SecondsAt start days before after k → length days ≤ k → Seconds start days before after
  seconds-end after k s over =
      let all : k ≡ length days = omega (arith, s.within) in
      let whole : take k (map (on_day start) days) ≡ map (on_day start) days =
      ap (λ (n : ℕ). take n (map (on_day start) days)) (all ∙ sym (length-map days (on_day start))) ∙ take-length (map (on_day start) days) in
      record { size = s.size; ids = ap (λ (n : ℕ). take n after) (sym all) ∙ (s.ids ∙ whole) }

-- ---- what is listed is handed over

module _ (start : ℕ) (p q : ℕ → Bool) (on : (x : ℕ) → p x ≡ (if eqb (x % 86400) (start % 86400) then q (x / 86400) else false))
    (from to : ℕ) (order : from ≤ to) (next : ℕ) (low : day_from start from ≤ next) (high : next ≤ day_from start to)
    (more : day_from start from < day_from start to → day_from start from < next) where
  whole : day_from start from + (next - day_from start from) ≡ next
  whole = omega arith

  midnight : FromDay start (86400 * next) next
  midnight = record { reached = omega arith; earliest = λ d h. omega arith; close = omega arith }

  goes_before : next < day_from start to → goes_on start to next ≡ 86400 * next
  unfolding goes_on
  goes_before h = rw (lt-ltb next (day_from start to) h)

  goes_end : day_from start to ≤ next → goes_on start to next ≡ to
  unfolding goes_on
  goes_end h = rw (le-ltb next (day_from start to) h)

  pub listed-hands : (before after : List ℕ) (count : ℕ) → length after ≡ length before → count ≤ length before
      → take count after ≡ map (on_day start) (list_in q (day_from start from) (next - day_from start from))
      → Handed p from to before after count (goes_on start to next)
  listed-hands before after count size few is =
      by (ltb next (day_from start to))
      (λ e.
      let h = ltb-true next (day_from start to) e in
      let first = from-day start from in
      let begins = first.reached in
      let ends = (from-day start to).close in
      let some : day_from start from < next = more (omega arith) in
      rw (goes_before h)
      (record {
        size = size;
        few = few;
        low = omega arith;
        high = omega arith;
        ahead = λ k. omega arith;
        ids =
            is
            ∙ sym (days-listed start p q on (next - day_from start from) from (86400 * next) (day_from start from) (omega arith) first (subst (FromDay start (86400 * next)) (sym whole) midnight));
      }))
      (λ e.
      let h = ltb-false next (day_from start to) e in
      let same : day_from start to ≡ next = omega arith in
      rw (goes_end h)
      (record {
        size = size;
        few = few;
        low = order;
        high = omega arith;
        ahead = λ k. k;
        ids =
            is
            ∙ sym (days-listed start p q on (next - day_from start from) from to (day_from start from) order (from-day start from) (subst (FromDay start to) (same ∙ sym whole) (from-day start to)));
      }))

-- ---- the only rule and its row

pub whole-unnamed : (d : Dates) (rows ids gone : ℕ) → Whole d rows ids gone → Whole d rows 0 0
whole-unnamed d rows ids gone w =
    record { size = w.size; rules_tracked = w.rules_tracked; excluded_tracked = w.excluded_tracked; overrides = refl; begins = w.begins }

any-first : (l : List Track) (a b : Track) → 1 ≤ length l → get_or l 0 a ≡ get_or l 0 b
any-first [] a b h = absurd (omega arith)
any-first (t ∷ l) a b h = refl

pub only_row : (d : Dates) (rows : List Bool) → Whole d (length rows) 0 0 → length (take row_size rows) ≡ row_size
only_row d rows w = length-take-le row_size rows (omega (arith, w.size))

module _ (d : Dates) (rows : List Bool) (w : Whole d (length rows) 0 0) (one : d.rules.count ≡ 1) where
  pub has-rule : 1 ≤ length d.rules.list
  has-rule = omega (arith, w.rules_tracked.list, one)

  first-week : (other : Track) → (get_or d.rules.list 0 other).terms.first < 7
  first-week other = go d.rules.list (subst (λ (n : ℕ). Weeks (take n d.rules.list)) one w.rules_tracked.weeks) has-rule
    where
      go : (l : List Track) → Weeks (take 1 l) → 1 ≤ length l → (get_or l 0 other).terms.first < 7
      go [] w h = absurd (omega arith)
      go (a ∷ l) w h = w.0

  pub plain_rows : d.excluded.count ≡ 0 → (other : Track) → ByMonths (get_or d.rules.list 0 other).terms (take row_size rows) → Plain d rows
  plain_rows none other m =
      record {
        one = one;
        none = none;
        by_months = λ another. subst (λ (t : Track). ByMonths t.terms (take row_size rows)) (any-first d.rules.list other another has-rule) m;
      }

-- ---- the days of the window

module _ (d : Dates) (rows : List Bool) (from to places : ℕ) (l : Listing d rows from to places) where
  later : day_from d.start from ≤ day_from d.start to
  later = day-order d.start from to l.span.order

  pub last-day : day_from d.start to ≤ end_day
  last-day = (from-day d.start to).earliest end_day (omega (arith, l.span.high))

  pub first-day : day_from d.start from ≤ end_day
  first-day = omega (arith, later, last-day)

  low-day : 366 ≤ day_from d.start from
  low-day = let low = l.span.low in omega (arith, (from-day d.start from).reached)

  pub window-asks : (other : Track) → places ≤ 1024
      → Listable (get_or d.rules.list 0 other).terms (take row_size rows) (day_from d.start from) (day_from d.start to) 1 places
  window-asks other most =
      record {
        by_months = l.plain.by_months other;
        row_length = only_row d rows l.whole;
        week = first-week d rows l.whole l.plain.one other;
        low = low-day;
        order = later;
        high = last-day;
        place = omega (arith, l.room);
        small = omega arith;
      }

  pub window-listed : (other : Track) (before after : List ℕ) (count next : ℕ)
      → Stopped (start_or (get_or d.rules.list 0 other) (take row_size rows) (d.start / 86400)) (day_from d.start from) (day_from d.start to) before 0 after count next
      → ListedWindow d rows from to before after count next
  window-listed other before after count next s =
      record {
        size = s.size;
        stopped = λ another.
            subst
            (λ (t : Track). Stopped (start_or t (take row_size rows) (d.start / 86400)) (day_from d.start from) (day_from d.start to) before 0 after count next)
            (any-first d.rules.list other another (has-rule d rows l.whole l.plain.one)) s;
      }

  default : Track
  default = go d.rules.list (has-rule d rows l.whole l.plain.one)
    where
      go : (l : List Track) → 1 ≤ length l → Track
      go [] h = absurd (omega arith)
      go (a ∷ l) h = a

  module _ (days listed : List ℕ) (count next : ℕ) (w : ListedWindow d rows from to days listed count next) where
    pub listed-few : count ≤ length listed
    listed-few = omega (arith, (w.stopped default).few, w.size)

    pub listed-part : count ≡ length (take count listed)
    listed-part = sym (length-take-le count listed listed-few)

    pub listed-ids : 32 ≤ length days → (before after : List ℕ) → length days ≤ length before → Seconds d.start (take count listed) before after
        → HandedUnnamed d rows from to before after count (goes_on d.start to next)
    listed-ids room before after fits s =
        let stop = w.stopped default in
        let same : take row_size rows ≡ take row_size (take list_size rows) = sym (take-take row_size list_size rows (omega arith)) in
        record {
          size = s.size;
          handed = λ ids gone none.
              listed-hands d.start (dates_in d rows ids gone) _
              (timed d.start d.rules (take list_size rows) d.excluded _ ids gone l.plain.one l.plain.none none default (has-rule d rows l.whole l.plain.one))
              from to l.span.order next stop.low stop.high (stop.ahead (omega arith))
              before after count s.size (omega (arith, stop.few))
              (ap (λ (n : ℕ). take n after) listed-part
              ∙ (s.ids
              ∙ ap (map (on_day d.start))
              (stop.days
              ∙ ap (λ (row : List Bool). list_in (start_or (get_or d.rules.list 0 default) row (d.start / 86400)) (day_from d.start from) (next - day_from d.start from)) same)));
        }

-- ---- as many days as there is room for ids

pub lent-days : (n : ℕ) → n ≤ 1024 → n ≡ length (take n (replicate {A = ℕ} 1024 0))
lent-days n less = sym (length-take-le n (replicate {A = ℕ} 1024 0) (omega (arith, length-replicate {A = ℕ} 1024 0)))

pub lent-asks : (d : Dates) (rows : List Bool) (from to n room : ℕ) → Listing d rows from to n → room ≡ min n 1024
    → Listing d rows from to (length (take room (replicate {A = ℕ} 1024 0)))
    × ((length (take room (replicate {A = ℕ} 1024 0)) ≤ 1024) × (length (take room (replicate {A = ℕ} 1024 0)) ≤ n))
lent-asks d rows from to n room l is =
    subst (λ (k : ℕ). Listing d rows from to k × ((k ≤ 1024) × (k ≤ n))) (lent-days room (omega arith))
    (record { plain = l.plain; whole = l.whole; span = l.span; room = omega (arith, l.room) }, (omega arith, omega arith))

pub ruleset lent = (lent-days, lent-asks)
