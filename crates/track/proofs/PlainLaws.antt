-- A rule without set positions: its days, and a part of a run that is marked apart.
use Rattle.std.specs.Prelude.{if◌then◌else◌}
use Prim.Native.Nat.{ℕ, suc, ◌+◌, ◌-◌, ◌<◌, ◌≤◌, min}
use mathlib.Core.Bool.{Bool, true, false}
use mathlib.Core.List.{List, [], ◌∷◌, ◌++◌, append_assoc}
use mathlib.Core.Path.{◌≡◌, refl, sym, ap, ◌∙◌, subst}
use native.Mathlib.Omega.{arith}
use lib.Dec.{ltb}
use lib.ListN.{length, take, drop, length-append, length-drop, take-append-drop}
use lib.Seq.{length-take-le, take_at, drop_at}
use borrow.Author.Tests.{le-ltb, lt-ltb, ltb-true, ltb-false}
use Rattle.rule.proofs.Bools.{by}
use Rattle.rule.specs.declared.Day.{Day}
use Rattle.rule.specs.Day.{day_at}
use Rattle.matcher.specs.declared.Terms.{Terms}
use Rattle.matcher.specs.Inner.Flags.{stays_by}
use Rattle.matcher.specs.Inner.Layout.{row_size}
use Rattle.matcher.specs.Inner.Walk.{Asked, step_by, placed_by, picks_by, picks_on_by}
use Rattle.matcher.proofs.WalkLaws.{picks-on, in-calendar, number_is, day-again}
use Rattle.rule.specs.Gives.{end_day}
use Rattle.track.specs.declared.Track.{Track}
use Rattle.track.specs.Inner.Runs.{has_day, marked}
use Rattle.track.specs.Inner.Skips.{to_month_end}
use Rattle.track.specs.Inner.Plain.{InMonth}
use Rattle.track.proofs.RunLaws.{MarkAt, marked-length}

-- ---- a day

module _ (t : Track) (row : List Bool) (begin : ℕ) where
  pub has-early : (d : ℕ) → d < begin → false ≡ has_day t row begin d
  unfolding has_day
  has-early d h = rw (lt-ltb d begin h)

  pub has-over : (d : ℕ) → t.last ≤ d → has_day t row begin d ≡ false
  unfolding has_day
  has-over d h = rw (le-ltb d t.last h) (go (ltb d begin))
    where
      go : (b : Bool) → (if b then false else false) ≡ false
      go true = refl
      go false = refl

  pub has-picked : (d : ℕ) → begin ≤ d → d < t.last → (b : Bool) → picks_on_by t.terms row d ≡ b → b ≡ has_day t row begin d
  unfolding has_day
  has-picked d low high b e = rw (le-ltb d begin low, lt-ltb d t.last high) (sym e)

-- picked by its own by-lists and its interval
module _ (t : Terms) (row : List Bool) (x : Day) (is : x ≡ day_at x.number) where
  pub plain-gone : stays_by row t.inyear x ≡ false → picks_on_by t row x.number ≡ false
  unfolding picks_by
  plain-gone e = picks-on t row x false is (rw e)

  pub plain-stays : t.placed ≡ false → stays_by row t.inyear x ≡ true → (b : Bool) → b ≡ step_by t x → picks_on_by t row x.number ≡ b
  unfolding picks_by
  plain-stays placed e b f = picks-on t row x b is (rw e (go t.placed (step_by t x) (placed_by t row x) placed ∙ sym f))
    where
      go : (p c d : Bool) → p ≡ false → (if c then (if p then d else true) else false) ≡ c
      go p true d h = rw h
      go p false d h = refl

-- ---- a part of the run that is marked apart

marked_append : (p : ℕ → Bool) (value : Bool) (d : ℕ) (l m : List Bool) → marked p value d (l ++ m) ≡ marked p value d l ++ marked p value (d + length l) m
unfolding marked
marked_append p value d [] m = let here : d + 0 ≡ d = omega arith in rw here
marked_append p value d (h ∷ l) m =
    let next : suc d + length l ≡ d + suc (length l) = omega arith in
    rw (marked_append p value (suc d) l m, next)

module _ (p : ℕ → Bool) (value : Bool) (first : ℕ) (before hits part : List Bool) (i n : ℕ) (m : MarkAt p value first before hits i)
    (room : i + n ≤ length hits) (is : part ≡ marked p value (first + i) (take n (drop i hits))) where
  part_length : length part ≡ n
  part_length =
      ap length is ∙ (marked-length p value (first + i) (take n (drop i hits)) ∙ length-take-le n (drop i hits) (omega (arith, length-drop i hits)))

  head-length : length (take i hits ++ part) ≡ i + n
  head-length = length-append (take i hits) part ∙ rw (length-take-le i hits (omega arith), part_length)

  rest : List Bool
  rest = drop n (drop i hits)

  pub mark-part : MarkAt p value first before (take i hits ++ (part ++ drop n (drop i hits))) (i + n)
  unfolding rest
  mark-part =
      let joined : take i hits ++ (part ++ rest) ≡ (take i hits ++ part) ++ rest = sym (append_assoc (take i hits) part rest) in
      let left : length rest ≡ length hits - i - n = length-drop n (drop i hits) ∙ ap (λ (k : ℕ). k - n) (length-drop i hits) in
      let size : length ((take i hits ++ part) ++ rest) ≡ length hits = length-append (take i hits ++ part) rest ∙ (omega (arith, head-length, left)) in
      let whole : part ++ marked p value (first + (i + n)) rest ≡ marked p value (first + i) (drop i hits) =
      rw is
      (let there : first + (i + n) ≡ first + i + length (take n (drop i hits)) = omega (arith, length-take-le n (drop i hits) (omega (arith, length-drop i hits))) in
      rw there (sym (marked_append p value (first + i) (take n (drop i hits)) rest) ∙ ap (marked p value (first + i)) (take-append-drop n (drop i hits))))
      in
      rw joined
      (record {
        within = omega (arith, size);
        size = size ∙ m.size;
        same =
            rw (take_at (take i hits ++ part) rest (i + n) head-length, drop_at (take i hits ++ part) rest (i + n) head-length)
            (append_assoc (take i hits) part (marked p value (first + (i + n)) rest)
            ∙ (ap (λ (l : List Bool). take i hits ++ l) whole ∙ m.same));
      })

-- ---- the days of one month

pub part-is : (n left end : ℕ) → n ≡ min left end → n ≡ (if ltb left end then left else end)
part-is n left end is =
    by (ltb left end) (λ e. rw e (omega (arith, ltb-true left end e))) (λ e. rw e (omega (arith, ltb-false left end e)))

pub month-some : (x : Day) → x ≡ day_at x.number → x.number < end_day → 1 ≤ to_month_end x
unfolding to_month_end
month-some x is known =
    let facts = in-calendar x x.number is (omega arith) in
    omega (arith, facts.monthday_high)

pub month-asked : (t : Terms) (row : ℕ) (x y : Day) (k : ℕ) → Asked t row x → y ≡ day_at (x.number + k) → x.number + k < end_day → Asked t row y
month-asked t row x y k a is known =
    let at = number_is y (x.number + k) is in
    record {
      row_length = a.row_length;
      week = a.week;
      day = day-again y (x.number + k) is;
      low = omega (arith, a.low);
      high = omega arith;
    }

-- the part of a list that is lent
pub part-size : {A : Type 0} (l : List A) (i n : ℕ) → i + n ≤ length l → length (take (i + n - i) (drop i l)) ≡ n
part-size l i n room =
    let less : i + n - i ≡ n = omega arith in
    ap (λ (k : ℕ). length (take k (drop i l))) less ∙ length-take-le n (drop i l) (omega (arith, length-drop i l))

module _ (p : ℕ → Bool) (value : Bool) (first : ℕ) (before hits : List Bool) (i : ℕ) (m : MarkAt p value first before hits i) where
  -- it comes back marked
  pub mark-lent : (part : List Bool) (n d : ℕ) → i + n ≤ length hits → d ≡ first + i → part ≡ marked p value d (take (i + n - i) (drop i hits))
      → MarkAt p value first before (take i hits ++ (part ++ drop (i + n - i) (drop i hits))) (i + n)
  mark-lent part n d room at is =
      let less : i + n - i ≡ n = omega arith in
      let here : part ≡ marked p value (first + i) (take n (drop i hits)) =
      is ∙ (ap (λ (k : ℕ). marked p value d (take k (drop i hits))) less ∙ ap (λ (e : ℕ). marked p value e (take n (drop i hits))) at) in
      subst (λ (k : ℕ). MarkAt p value first before (take i hits ++ (part ++ drop k (drop i hits))) (i + n)) (sym less)
      (mark-part p value first before hits part i n m room here)

  pub mark-falls : (after : List Bool) (n : ℕ) → MarkAt p value first before after (i + n) → 1 ≤ n → i < length hits
      → length after - (i + n) < length hits - i
  mark-falls after n a some-days more = omega (arith, a.size, m.size)

pub month-at : (t : Terms) (row : ℕ) (x : Day) (n : ℕ) → row ≡ row_size → t.first < 7 → x ≡ day_at n → 366 ≤ n → n < end_day → Asked t row x
month-at t row x n size week is low high =
    let at = number_is x n is in
    record { row_length = size; week = week; day = day-again x n is; low = omega arith; high = omega arith }

pub month-fits : (x : Day) (size n : ℕ) → size ≡ n → n ≤ to_month_end x → x.number + n ≤ end_day → InMonth x size
month-fits x size n is within known = record { within = omega arith; known = omega arith }
