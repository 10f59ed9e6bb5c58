-- The days of a rule in a month, from the row or the list of its kind.
use Rattle.std.specs.Prelude.{if◌then◌else◌}
use Prim.Native.Nat.{ℕ, zero, suc, ◌+◌, ◌-◌, ◌<◌, ◌≤◌}
use mathlib.Core.Bool.{Bool, true, false}
use mathlib.Core.List.{List, ◌∷◌, ◌++◌, map, append-nil}
use mathlib.Core.Path.{◌≡◌, refl, sym, ap, ◌∙◌, subst}
use native.Mathlib.Omega.{arith}
use lib.ListN.{length, take, drop, get_or, replicate}
use lib.Seq.{ext_get_or}
use Rattle.gregorian.specs.Days.{day_count}
use Rattle.rule.specs.declared.Day.{Day}
use Rattle.rule.specs.Day.{day_at}
use Rattle.rule.specs.Gives.{end_day}
use Rattle.rule.specs.Inner.Bounds.{InCalendar}
use Rattle.matcher.specs.declared.Terms.{Terms}
use Rattle.matcher.specs.Inner.Flags.{month_by}
use Rattle.matcher.specs.Inner.Walk.{Asked, step_by, picks_on_by}
use Rattle.matcher.proofs.WalkLaws.{in-calendar}
use Rattle.months.specs.Inner.Kinds.{Kind, picks_in}
use Rattle.months.specs.Inner.Layout.{kinds_size, last_at, answers_size}
use Rattle.months.specs.Inner.Rows.{KeptAt}
use Rattle.months.proofs.RowLaws.{kept-none}
use Rattle.track.specs.Inner.Skips.{to_month_end}
use Rattle.track.specs.Inner.Alike.{first_weekday}
use Rattle.track.specs.Inner.Plain.{InMonth}
use Rattle.track.proofs.LeapLaws.{month-not-early}
use Rattle.track.proofs.PlainLaws.{part-size}
use Rattle.track.proofs.AlikeLaws.{month-kind, picks-kind, unset-none, out_none}
use Rattle.window.specs.Inner.Lists.{list_in}
use Rattle.window.proofs.ListLaws.{list_same, list-nothing, list-below}
use Rattle.listing.specs.Inner.Lists.{hit_on, Listed, Collected, Offsets, Copied}
use Rattle.listing.specs.Inner.Kinds.{kind_days, ListAt}
use Rattle.listing.specs.Inner.Parts.{ByMonths, Chosen, Kinds, Room, ListedPart}
use Rattle.listing.proofs.KindLaws.{kind-few, piece-at, lists-none}

-- ---- lists from another day on

list-shift : (p q : ℕ → Bool) (first a n : ℕ) → ((i : ℕ) → i < n → p (first + (a + i)) ≡ q (a + i)) → map (λ d. first + d) (list_in q a n) ≡ list_in p (first + a) n
unfolding list_in
list-shift p q first a zero h = refl
list-shift p q first a (suc n) h =
    let here : q a ≡ p (first + a) = ap q (omega arith) ∙ (sym (h 0 (omega arith)) ∙ ap p (omega arith)) in
    let next : first + suc a ≡ suc (first + a) = omega arith in
    let later : map (λ d. first + d) (list_in q (suc a) n) ≡ list_in p (suc (first + a)) n =
    list-shift p q first (suc a) n (λ i less. ap p (omega arith) ∙ (h (suc i) (omega arith) ∙ ap q (omega arith))) ∙ ap (λ (k : ℕ). list_in p k n) next in
    go (q a) (p (first + a)) here later
  where
    go : (b c : Bool) → b ≡ c → map (λ d. first + d) (list_in q (suc a) n) ≡ list_in p (suc (first + a)) n
        → map (λ d. first + d) (if b then a ∷ list_in q (suc a) n else list_in q (suc a) n) ≡ (if c then (first + a) ∷ list_in p (suc (first + a)) n else list_in p (suc (first + a)) n)
    go true c e later = rw (← e) (ap (λ (l : List ℕ). (first + a) ∷ l) later)
    go false c e later = rw (← e) later

-- ---- no day

module _ (p : ℕ → Bool) (first n : ℕ) (before : List ℕ) (at : ℕ) where
  pub listed-nothing : ((j : ℕ) → first ≤ j → j < first + n → p j ≡ false) → Listed p first n before at before at
  listed-nothing none =
      record {
        size = refl;
        most = omega arith;
        days = sym (ap (λ (l : List ℕ). take at before ++ l) (list-nothing p first n none) ∙ append-nil (take at before));
      }

module _ (t : Terms) (row : List Bool) (m : ByMonths t row) (x : Day) (a : Asked t (length row) x) (n : ℕ) (part : InMonth x n) where
  none_from : ((j : ℕ) → j < to_month_end x → picks_on_by t row (x.number + j) ≡ false) → (d : ℕ) → x.number ≤ d → d < x.number + n → picks_on_by t row d ≡ false
  none_from none d low high =
      let there : x.number + (d - x.number) ≡ d = omega arith in
      subst (λ (e : ℕ). picks_on_by t row e ≡ false) there (none (d - x.number) (omega (arith, part.within)))

  pub part-chosen : month_by row x ≡ true → step_by t x ≡ true → Chosen t row x n
  part-chosen is_set in_step = record { by_months = m; asked = a; part = part; is_set = is_set; in_step = in_step }

  module _ (before : List ℕ) (at : ℕ) (rows : List Bool) (lists : List ℕ) (k : Kinds t row rows lists) where
    pub part-unset : month_by row x ≡ false → ListedPart t row x n rows lists before at before at
    part-unset e = record { listed = listed-nothing _ _ n before at (none_from (unset-none t row m.alike x a e)); kinds = k }

    pub part_out : step_by t x ≡ false → ListedPart t row x n rows lists before at before at
    part_out e = record { listed = listed-nothing _ _ n before at (none_from (out_none t row m.alike x a e)); kinds = k }

-- ---- days of a month that is set and in step

module _ (t : Terms) (row : List Bool) (x : Day) (n : ℕ) (c : Chosen t row x n) where
  known : x.number < day_count
  known = omega (arith, c.asked.high)

  pub chosen-calendar : InCalendar x
  chosen-calendar = in-calendar x x.number c.asked.day known

  pub chosen-kind : Kind (first_weekday x) x.monthdays
  chosen-kind = month-kind x c.asked.day known

  pub chosen-within : x.monthday - 1 + n ≤ x.monthdays
  unfolding to_month_end
  chosen-within = omega (arith, c.part.within, chosen-calendar.monthday_low, chosen-calendar.monthday_high)

  early : x.monthday - 1 ≤ x.number
  early = month-not-early x c.asked.day known

  picks-there : (k : ℕ) → k < n → picks_on_by t row (x.number + k) ≡ picks_in t.placed row (first_weekday x) x.monthdays (x.monthday - 1 + k)
  picks-there k h =
      let room = chosen-within in
      ap (picks_on_by t row) (omega (arith, early))
      ∙ picks-kind t row c.by_months.alike x c.asked c.is_set c.in_step c.by_months.monthly (x.monthday - 1 + k) (omega arith)

  -- collected from the row of its kind
  pub some-listed : (rows : List Bool) (at : ℕ) → KeptAt t.placed row (first_weekday x) x.monthdays rows at → (part : List Bool) → length part ≡ n
      → ((k : ℕ) → k < n → get_or part k false ≡ get_or rows (at + (x.monthday - 1) + k) false) → (before : List ℕ) (place : ℕ) (after : List ℕ) (end : ℕ)
      → Collected part x.number before place after end → Listed (picks_on_by t row) x.number n before place after end
  unfolding hit_on
  some-listed rows at kept part size same before place after end l =
      let room = chosen-within in
      record {
        size = l.listed.size;
        most = omega (arith, l.listed.most);
        days =
            l.listed.days
            ∙ ap (λ (xs : List ℕ). take place before ++ xs)
            (ap (list_in (hit_on part x.number) x.number) size
            ∙ list_same (hit_on part x.number) (picks_on_by t row) x.number n
            (λ j low high.
            let k = j - x.number in
            same (j - x.number) (omega arith)
            ∙ (ap (λ (i : ℕ). get_or rows i false) (omega arith)
            ∙ (kept.row (x.monthday - 1 + (j - x.number)) (omega arith)
            ∙ (sym (picks-there (j - x.number) (omega arith)) ∙ ap (picks_on_by t row) (omega arith))))));
      }

  pub some-room : (days at : ℕ) → Room days at → (rows : List Bool) (from : ℕ) → from + n ≤ length rows
      → (x.number + length (take (from + n - from) (drop from rows)) ≤ end_day) × ((at + length (take (from + n - from) (drop from rows)) ≤ days) × (days < 4294967296))
  some-room days at room rows from fits =
      let size = part-size rows from n fits in
      (omega (arith, c.part.known), (omega (arith, room.month, chosen-within, chosen-kind.high), room.small))

-- a whole month
pub whole-chosen : (t : Terms) (row : List Bool) (x : Day) (n : ℕ) → n ≡ x.monthdays → Chosen t row x n → Chosen t row x x.monthdays
whole-chosen t row x n whole c = subst (Chosen t row x) whole c

pub whole-listed : (t : Terms) (row : List Bool) (x : Day) (n : ℕ) (rows : List Bool) (lists before : List ℕ) (at : ℕ) (after : List ℕ) (end : ℕ) → n ≡ x.monthdays
    → ListedPart t row x x.monthdays rows lists before at after end → ListedPart t row x n rows lists before at after end
whole-listed t row x n rows lists before at after end whole l = subst (λ (k : ℕ). ListedPart t row x k rows lists before at after end) (sym whole) l

module _ (t : Terms) (row : List Bool) (x : Day) (c : Chosen t row x x.monthdays) where
  begins : x.monthday ≡ 1
  begins =
      let kind = chosen-kind t row x x.monthdays c in
      omega (arith, chosen-within t row x x.monthdays c, kind.low, (chosen-calendar t row x x.monthdays c).monthday_low)

  days-of : List ℕ
  days-of = kind_days t.placed row (first_weekday x) x.monthdays

  month-listed : map (λ d. x.number + d) days-of ≡ list_in (picks_on_by t row) x.number x.monthdays
  unfolding days-of kind_days
  month-listed =
      let first = begins in
      list-shift (picks_on_by t row) (picks_in t.placed row (first_weekday x) x.monthdays) x.number 0 x.monthdays
      (λ i less.
      ap (picks_on_by t row) (omega arith)
      ∙ (picks-there t row x x.monthdays c i less ∙ ap (picks_in t.placed row (first_weekday x) x.monthdays) (omega arith)))
      ∙ ap (λ (k : ℕ). list_in (picks_on_by t row) k x.monthdays) (omega arith)

  module _ (rows : List Bool) (lists : List ℕ) (at : ℕ) (l : ListAt t.placed row (first_weekday x) x.monthdays rows lists at) where
    pub month-number : 1 ≤ get_or lists (at + last_at) 0
    month-number = omega (arith, l.held.number)

    pub month-few : get_or lists (at + last_at) 0 ≤ 32
    month-few = omega (arith, l.held.number, kind-few t.placed row (first_weekday x) x.monthdays, (chosen-kind t row x x.monthdays c).high)

    -- the days of its kind, which are lent
    module _ (n : ℕ) (is : n ≡ get_or lists (at + last_at) 0 - 1) where
      pub month-fits : at + n ≤ length lists
      month-fits = omega (arith, month-few, l.within, l.kept.size)

      piece : List ℕ
      piece = take (at + n - at) (drop at lists)

      piece_is : piece ≡ days-of
      unfolding piece days-of
      piece_is =
          let number = l.held.number in
          let size : length piece ≡ n = part-size lists at n month-fits in
          ext_get_or 0 piece days-of (omega arith) (λ k h. piece-at lists at n k 0 (omega arith) ∙ l.held.each k (omega arith))

      pub month-asks : (days place : ℕ) → Room days place → Offsets x.number (take (at + n - at) (drop at lists)) × (place + length (take (at + n - at) (drop at lists)) ≤ days)
      unfolding piece days-of kind_days
      month-asks days place room =
          let high = (chosen-kind t row x x.monthdays c).high in (
            record {
              begins = omega (arith, c.asked.high);
              small = λ k h.
                  omega (
                    arith,
                    ap (λ (xs : List ℕ). get_or xs k 0) piece_is,
                    list-below (picks_in t.placed row (first_weekday x) x.monthdays) 0 x.monthdays k (subst (λ (xs : List ℕ). k < length xs) piece_is h),
                    high,
                  );
            },
            omega (arith, part-size lists at n month-fits, month-few, room.month),
          )

      pub month-copied : (before : List ℕ) (place : ℕ) (after : List ℕ) (end : ℕ) → Copied (take (at + n - at) (drop at lists)) x.number before place after end
          → ListedPart t row x x.monthdays rows lists before place after end
      unfolding piece days-of
      month-copied before place after end d =
          record {
            listed =
                record {
                  size = d.size;
                  most = omega (arith, d.place, ap length piece_is, kind-few t.placed row (first_weekday x) x.monthdays);
                  days = d.days ∙ ap (λ (xs : List ℕ). take place before ++ xs) (ap (map (λ d. x.number + d)) piece_is ∙ month-listed);
                };
            kinds = record { rows_kept = l.rows_kept; lists_kept = l.kept };
          }

-- ---- before any month

pub kinds-none : (t : Terms) (row : List Bool) → Kinds t row (replicate answers_size false) (replicate kinds_size 0)
kinds-none t row = record { rows_kept = kept-none t.placed row; lists_kept = lists-none t.placed row }

-- days of one month are few
pub part-few : (x : Day) (d n : ℕ) → x ≡ day_at d → d < day_count → n ≤ to_month_end x → n ≤ 31
unfolding to_month_end
part-few x d n is known within =
    let facts = in-calendar x d is known in
    omega (arith, facts.monthday_low, facts.monthdays)
