-- Months of a count that do not use it up.
use Rattle.std.specs.Prelude.{if◌then◌else◌}
use Prim.Native.Nat.{ℕ, zero, suc, ◌+◌, ◌-◌, ◌/◌, ◌<◌, ◌≤◌}
use mathlib.Core.Bool.{Bool, true, false}
use mathlib.Core.List.{List}
use mathlib.Core.Path.{◌≡◌, refl, sym, ap, ◌∙◌}
use native.Mathlib.Omega.{arith}
use native.Mathlib.Numerals.{add-one}
use borrow.Author.Tests.{ne_eqb}
use Rattle.rule.specs.declared.End.{End}
use Rattle.rule.specs.Lists.{count_in}
use Rattle.rule.proofs.Bools.{by}
use Rattle.rule.proofs.Counting.{count-more, count_less, count_none, count-nothing, count-split, count_most}
use Rattle.rule.specs.declared.Day.{Day}
use Rattle.matcher.specs.declared.Terms.{Terms}
use Rattle.matcher.proofs.WalkLaws.{number_is, day-again}
use Rattle.matcher.specs.Inner.Member.{is_first, falls_on_by}
use Rattle.track.specs.Inner.Last.{end_of, Ending}
use Rattle.rule.specs.Day.{day_at}
use Rattle.track.specs.declared.Rest.{Rest}
use Rattle.track.specs.Inner.Ahead.{EndAt, AheadAt, AheadOf, Resting, OutAfter}
use Rattle.track.proofs.LastLaws.{end-yes, end-no, falls-by}

-- ---- how many of some days pass

pub record CountAt (p : ℕ → Bool) (d n k found : ℕ) : Type 0 where
  pub within : k ≤ n
  pub few : found ≤ k
  pub sum : found + count_in p (d + k) (n - k) ≡ count_in p d n

module _ (p : ℕ → Bool) (d n : ℕ) where
  pub count-starts : CountAt p d n 0 0
  count-starts =
      let here : d + 0 ≡ d = omega arith in
      let all : n - 0 ≡ n = omega arith in
      record { within = omega arith; few = omega arith; sum = rw (here, all) (omega arith) }

  module _ (k found : ℕ) (i : CountAt p d n k found) (more : k < n) where
    one_less : n - k ≡ suc (n - (k + 1))
    one_less = omega arith

    next : suc (d + k) ≡ d + (k + 1)
    next = omega arith

    pub count_yes : p (d + k) ≡ true → CountAt p d n (k + 1) (found + 1)
    count_yes e =
        let here : count_in p (d + k) (n - k) ≡ suc (count_in p (d + (k + 1)) (n - (k + 1))) =
        ap (count_in p (d + k)) one_less ∙ (count-more p (d + k) (n - (k + 1)) e ∙ ap (λ (j : ℕ). suc (count_in p j (n - (k + 1)))) next) in
        record { within = omega arith; few = omega (arith, i.few); sum = omega (arith, i.sum, here) }

    pub count_no : p (d + k) ≡ false → CountAt p d n (k + 1) found
    count_no e =
        let here : count_in p (d + k) (n - k) ≡ count_in p (d + (k + 1)) (n - (k + 1)) =
        ap (count_in p (d + k)) one_less ∙ (count_less p (d + k) (n - (k + 1)) e ∙ ap (λ (j : ℕ). count_in p j (n - (k + 1))) next) in
        record { within = omega arith; few = omega (arith, i.few); sum = omega (arith, i.sum, here) }

  count-parts : (k g : ℕ) → k + g ≤ n → count_in p (d + k) (n - k) ≡ count_in p (d + k) g + count_in p (d + (k + g)) (n - (k + g))
  count-parts k g h =
      let rest : g + (n - (k + g)) ≡ n - k = omega arith in
      let there : d + k + g ≡ d + (k + g) = omega arith in
      sym (ap (count_in p (d + k)) rest)
      ∙ (count-split p (d + k) g (n - (k + g)) ∙ ap (λ (j : ℕ). count_in p (d + k) g + count_in p j (n - (k + g))) there)

  -- none of some days passes
  pub count-passes : (k found g : ℕ) → CountAt p d n k found → k + g ≤ n → ((j : ℕ) → d + k ≤ j → j < d + k + g → p j ≡ false)
      → CountAt p d n (k + g) found
  count-passes k found g i h out =
      record { within = h; few = omega (arith, i.few); sum = omega (arith, i.sum, count-parts k g h, count-nothing p (d + k) g out) }

  -- some days that were counted
  pub count-adds : (k found g : ℕ) → CountAt p d n k found → k + g ≤ n → CountAt p d n (k + g) (found + count_in p (d + k) g)
  count-adds k found g i h =
      record { within = h; few = omega (arith, i.few, count_most p (d + k) g); sum = omega (arith, i.sum, count-parts k g h) }

  pub count-ends : (k found : ℕ) → CountAt p d n k found → n ≤ k → found ≡ count_in p d n
  count-ends k found i over =
      let none : n - k ≡ 0 = omega arith in
      let nothing : count_in p (d + k) (n - k) ≡ 0 = ap (count_in p (d + k)) none ∙ count_none p (d + k) in
      omega (arith, i.sum)

-- from day to day, with the days that are left

pub record Tally (p : ℕ → Bool) (first n d left found : ℕ) : Type 0 where
  pub low : first ≤ d
  pub ends : d + left ≡ first + n
  pub count : CountAt p first n (d - first) found

module _ (p : ℕ → Bool) (first n : ℕ) where
  pub tally-starts : (d : ℕ) → d ≡ first → Tally p first n d n 0
  tally-starts d e =
      let none : d - first ≡ 0 = omega arith in
      record { low = omega arith; ends = omega arith; count = rw none (count-starts p first n) }

  module _ (d left found : ℕ) (i : Tally p first n d left found) where
    here : first + (d - first) ≡ d
    here = omega (arith, i.low)

    pub tally-yes : (next : ℕ) → next ≡ d + 1 → 0 < left → p d ≡ true → Tally p first n next (left - 1) (found + 1)
    tally-yes next f h e =
        let on : next - first ≡ d - first + 1 = omega (arith, i.low) in
        record {
          low = omega (arith, i.low);
          ends = omega (arith, i.ends);
          count = rw on (count_yes p first n (d - first) found i.count (omega (arith, i.ends, i.low)) (ap p here ∙ e));
        }

    module _ (g : ℕ) (out : (j : ℕ) → d ≤ j → j < d + g → p j ≡ false) where
      pub tally-leaps : (next : ℕ) → next ≡ d + g → g < left → Tally p first n next (left - g) found
      tally-leaps next f h =
          let on : next - first ≡ d - first + g = omega (arith, i.low) in
          record {
            low = omega (arith, i.low);
            ends = omega (arith, i.ends);
            count = rw on (count-passes p first n (d - first) found g i.count (omega (arith, i.ends, i.low)) (λ j low high. out j (omega (arith, here)) (omega (arith, here))));
          }

      pub tally-nowhere : left ≤ g → found ≡ count_in p first n
      tally-nowhere h =
          count-ends p first n (d - first + left) found
          (count-passes p first n (d - first) found left i.count (omega (arith, i.ends, i.low)) (λ j low high. out j (omega (arith, here)) (omega (arith, here))))
          (omega (arith, i.ends, i.low))

    pub tally-adds : (next g r : ℕ) → next ≡ d + g → g ≤ left → r ≡ count_in p d g → Tally p first n next (left - g) (found + r)
    tally-adds next g r f h is =
        let on : next - first ≡ d - first + g = omega (arith, i.low) in
        let counted : r ≡ count_in p (first + (d - first)) g = is ∙ sym (ap (λ (j : ℕ). count_in p j g) here) in
        record {
          low = omega (arith, i.low);
          ends = omega (arith, i.ends);
          count = rw (on, counted) (count-adds p first n (d - first) found g i.count (omega (arith, i.ends, i.low)));
        }

    pub tally-over : left ≤ 0 → found ≡ count_in p first n
    tally-over h = count-ends p first n (d - first) found i.count (omega (arith, i.ends, i.low))

-- ---- days that do not use the count up

end-counts : (p : ℕ → Bool) (g k d n : ℕ) → g ≤ k → count_in p d g < n → end_of p k d n ≡ end_of p (k - g) (d + g) (n - count_in p d g)
end-counts p zero k d n h few =
    let nothing = count_none p d in
    let same : k - 0 ≡ k = omega arith in
    let here : d + 0 ≡ d = omega arith in
    let all : n - count_in p d 0 ≡ n = omega arith in
    rw (same, here, all)
end-counts p (suc g) k d n h few =
    by (p d)
    (λ e.
    let counted = count-more p d g e in
    let same : k - 1 - g ≡ k - suc g = omega arith in
    let there : d + 1 + g ≡ d + suc g = omega arith in
    let next : count_in p (d + 1) g ≡ count_in p (suc d) g = ap (λ (j : ℕ). count_in p j g) (add-one d) in
    let rest : n - 1 - count_in p (d + 1) g ≡ n - count_in p d (suc g) = omega arith in
    end-yes p k d n (omega arith) (λ none. omega arith) e
    ∙ (end-counts p g (k - 1) (d + 1) (n - 1) (omega arith) (omega arith)
    ∙ (ap (λ (j : ℕ). end_of p j (d + 1 + g) (n - 1 - count_in p (d + 1) g)) same
    ∙ (ap (λ (j : ℕ). end_of p (k - suc g) j (n - 1 - count_in p (d + 1) g)) there ∙ ap (end_of p (k - suc g) (d + suc g)) rest))))
    (λ e.
    let counted = count_less p d g e in
    let same : k - 1 - g ≡ k - suc g = omega arith in
    let there : d + 1 + g ≡ d + suc g = omega arith in
    let next : count_in p (d + 1) g ≡ count_in p (suc d) g = ap (λ (j : ℕ). count_in p j g) (add-one d) in
    let rest : n - count_in p (d + 1) g ≡ n - count_in p d (suc g) = omega arith in
    end-no p k d n (omega arith) (λ none. omega arith) e
    ∙ (end-counts p g (k - 1) (d + 1) n (omega arith) (omega arith)
    ∙ (ap (λ (j : ℕ). end_of p j (d + 1 + g) (n - count_in p (d + 1) g)) same
    ∙ (ap (λ (j : ℕ). end_of p (k - suc g) j (n - count_in p (d + 1) g)) there ∙ ap (end_of p (k - suc g) (d + suc g)) rest))))

pub end-passes : (p : ℕ → Bool) (first limit count d left more : ℕ) → EndAt p first limit count d left more
    → (next n found : ℕ) → next ≡ d + n → n ≤ left → found ≡ count_in p d n → found < more → EndAt p first limit count next (left - n) (more - found)
end-passes p first limit count d left more w next n found at h is few =
    record {
      low = omega (arith, w.low);
      ends = omega (arith, w.ends);
      same = rw (at, is) (sym (end-counts p n left d more h (omega arith)) ∙ w.same);
    }

pub end-moves : (p : ℕ → Bool) (first limit count d left more e : ℕ) → EndAt p first limit count d left more → e ≡ d
    → EndAt p first limit count e left more
end-moves p first limit count d left more e w same =
    record { low = omega (arith, w.low); ends = omega (arith, w.ends); same = rw same w.same }

-- the days after the start's own that the rule does not pick are not its own
pub falls-without : (excluded : Bool) (end : End) (t : Terms) (row : List Bool) (start d n : ℕ) → OutAfter t row (start / 86400) d n
    → (j : ℕ) → d ≤ j → j < d + n → falls_on_by excluded end t row start j ≡ false
unfolding is_first
falls-without excluded end t row start d n o j low high =
    let after = o.after (omega arith) in
    sym (falls-by excluded end t row start j) ∙ rw (o.out.none j low high, ne_eqb j (start / 86400) (omega arith)) (go excluded)
  where
    go : (x : Bool) → (if (if x then false else false) then true else false) ≡ false
    go true = refl
    go false = refl

-- ---- from one rest to the next

pub end-begins : (p : ℕ → Bool) (d left more : ℕ) → EndAt p d (d + left) more d left more
end-begins p d left more =
    let all : d + left - d ≡ left = omega arith in
    record { low = omega arith; ends = refl; same = rw all }

pub ahead-begins : (p : ℕ → Bool) (a : Rest) → a.day ≡ day_at a.day.number → AheadOf p a a
ahead-begins p a day = record { day = day; walk = end-begins p a.day.number a.left a.more }

pub ahead-joins : (p : ℕ → Bool) (first limit count : ℕ) (a b : Rest) → AheadAt p first limit count a → AheadOf p a b → AheadAt p first limit count b
ahead-joins p first limit count a b u v =
    let all : a.day.number + a.left - a.day.number ≡ a.left = omega arith in
    record {
      day = v.day;
      walk =
          record {
            low = omega (arith, u.walk.low, v.walk.low);
            ends = v.walk.ends ∙ u.walk.ends;
            same = v.walk.same ∙ (ap (λ (k : ℕ). end_of p k a.day.number a.more) all ∙ u.walk.same);
          };
    }

pub resting-begins : (t : Terms) (row start limit : ℕ) → Ending t row start limit → start / 86400 < limit
    → (x : Day) → x ≡ day_at (start / 86400) → (count : ℕ) → Resting t row start (record { day = x; left = limit - start / 86400; more = count })
resting-begins t row start limit a h x e count =
    let at = number_is x (start / 86400) e in
    record {
      row_length = a.row_length;
      week = a.week;
      low = a.low;
      day = day-again x (start / 86400) e;
      after = omega arith;
      within = omega (arith, a.within);
      starts = a.high;
      begun = a.begun;
    }

pub resting-on : (p : ℕ → Bool) (t : Terms) (row start : ℕ) (a b : Rest) → Resting t row start a → AheadOf p a b → Resting t row start b
resting-on p t row start a b r v =
    record {
      row_length = r.row_length;
      week = r.week;
      low = r.low;
      day = v.day;
      after = omega (arith, r.after, v.walk.low);
      within = omega (arith, r.within, v.walk.ends);
      starts = r.starts;
      begun = r.begun;
    }
