-- The day that ends a rule: before it, and only there, fewer than `count` days came before and `until` is not past.
use Rattle.std.specs.Prelude.{if◌then◌else◌}
use Prim.Native.Nat.{ℕ, zero, suc, ◌+◌, ◌-◌, ◌/◌, ◌%◌, ◌<◌, ◌≤◌, min}
use mathlib.Core.Bool.{Bool, true, false}
use mathlib.Core.List.{List}
use mathlib.Core.Path.{◌≡◌, refl, sym, ap, ◌∙◌}
use native.Mathlib.Omega.{arith}
use native.Mathlib.Numerals.{add-one}
use lib.Dec.{eqb, leb, ltb}
use borrow.Author.Tests.{eqb-true, eqb-false, ltb-true, ltb-false, leb-true, leb-false, lt-ltb, le-ltb, le-leb, lt-leb, ne_eqb}
use Rattle.rule.specs.Lists.{count_in}
use Rattle.rule.specs.Gives.{end_day, on_day}
use Rattle.rule.proofs.Bools.{by, same_tests}
use Rattle.rule.proofs.Counting.{count-more, count_less, count_none}
use Rattle.rule.specs.declared.End.{End}
use Rattle.rule.specs.Lists.{not_after}
use Rattle.rule.specs.Inner.Read.{until_from}
use Rattle.rule.proofs.PeriodLaws.{day-number}
use Rattle.matcher.specs.declared.Terms.{Terms}
use Rattle.matcher.specs.Inner.Walk.{picks_on_by}
use Rattle.matcher.specs.Inner.Member.{is_first, falls_by, falls_on_by}
use Rattle.track.specs.Inner.Last.{until_day, end_of}
use Rattle.track.specs.Inner.Ahead.{EndAt}
use Rattle.track.specs.Inner.Skips.{Between}

-- ---- one turn

pub end_none : (p : ℕ → Bool) (d n : ℕ) → end_of p 0 d n ≡ d
unfolding end_of
end_none p d n = refl

pub end-here : (p : ℕ → Bool) (k d : ℕ) → end_of p k d 0 ≡ d
unfolding end_of
end-here p zero d = refl
end-here p (suc k) d = refl

pub end-yes : (p : ℕ → Bool) (k d n : ℕ) → 0 < k → (n ≡ 0 → ⊥) → p d ≡ true → end_of p k d n ≡ end_of p (k - 1) (d + 1) (n - 1)
unfolding end_of
end-yes p zero d n h some_left e = absurd (omega arith)
end-yes p (suc k) d n h some_left e =
    let less : suc k - 1 ≡ k = omega arith in
    rw (less, add-one d, ne_eqb n 0 some_left, e)

pub end-no : (p : ℕ → Bool) (k d n : ℕ) → 0 < k → (n ≡ 0 → ⊥) → p d ≡ false → end_of p k d n ≡ end_of p (k - 1) (d + 1) n
unfolding end_of
end-no p zero d n h some_left e = absurd (omega arith)
end-no p (suc k) d n h some_left e =
    let less : suc k - 1 ≡ k = omega arith in
    rw (less, add-one d, ne_eqb n 0 some_left, e)

-- ---- as many days as are left, or more: the count is not used up

pub end-all : (p : ℕ → Bool) (k d n : ℕ) → k ≤ n → end_of p k d n ≡ d + k
end-all p zero d n h = omega (arith, end_none p d n)
end-all p (suc k) d n h =
    let less : suc k - 1 ≡ k = omega arith in
    by (p d)
    (λ e. rw (end-yes p (suc k) d n (omega arith) (omega arith) e, less) (omega (arith, end-all p k (d + 1) (n - 1) (omega arith))))
    (λ e. rw (end-no p (suc k) d n (omega arith) (omega arith) e, less) (omega (arith, end-all p k (d + 1) n (omega arith))))

-- ---- days that do not pass, at once

pub end-skips : (p : ℕ → Bool) (k d n : ℕ) → (n ≡ 0 → ⊥) → (g : ℕ) → g ≤ k → ((j : ℕ) → d ≤ j → j < d + g → p j ≡ false)
    → end_of p k d n ≡ end_of p (k - g) (d + g) n
end-skips p k d n some_left zero h out =
    let same : k - 0 ≡ k = omega arith in
    let here : d + 0 ≡ d = omega arith in
    rw (same, here)
end-skips p k d n some_left (suc g) h out =
    let less : k - suc g ≡ k - g - 1 = omega arith in
    let next : d + suc g ≡ d + g + 1 = omega arith in
    rw (less, next)
    (end-skips p k d n some_left g (omega arith) (λ j low high. out j low (omega arith))
    ∙ end-no p (k - g) (d + g) n (omega arith) some_left (out (d + g) (omega arith) (omega arith)))

-- ---- the walk: from here on it ends where it ends from the start on

module _ (p : ℕ → Bool) (first limit count : ℕ) where
  pub end-starts : (d : ℕ) → d ≡ first → first < limit → EndAt p first limit count d (limit - first) count
  end-starts d e h = record { low = omega arith; ends = omega arith; same = rw e }

  module _ (d left more : ℕ) (w : EndAt p first limit count d left more) where
    pub end-found : more ≡ 0 → limit - left ≡ end_of p (limit - first) first count
    end-found none =
        let here : limit - left ≡ d = omega (arith, w.ends) in
        here ∙ (sym (end-here p left d) ∙ (sym (ap (end_of p left d) none) ∙ w.same))

    pub end-over : left ≤ 0 → limit ≡ end_of p (limit - first) first count
    end-over h =
        let none : left ≡ 0 = omega arith in
        let here : end_of p left d more ≡ d = rw none (end_none p d more) in
        omega (arith, w.same, w.ends)

    module _ (next : ℕ) (f : next ≡ d + 1) (h : 0 < left) (some_left : more ≡ 0 → ⊥) where
      pub end-goes-on : p d ≡ true → EndAt p first limit count next (left - 1) (more - 1)
      end-goes-on e =
          record {
            low = omega (arith, w.low);
            ends = omega (arith, w.ends);
            same = rw f (sym (end-yes p left d more h some_left e) ∙ w.same);
          }

    module _ (g : ℕ) (some_left : more ≡ 0 → ⊥) (out : (j : ℕ) → d ≤ j → j < d + g → p j ≡ false) where
      pub end-leaps : (next : ℕ) → next ≡ d + g → g < left → EndAt p first limit count next (left - g) more
      end-leaps next f h =
          record {
            low = omega (arith, w.low);
            ends = omega (arith, w.ends);
            same = rw f (sym (end-skips p left d more some_left g (omega arith) out) ∙ w.same);
          }

      pub end-nowhere : left ≤ g → limit ≡ end_of p (limit - first) first count
      end-nowhere h =
          let none : left - left ≡ 0 = omega arith in
          let there : d + left ≡ limit = w.ends in
          let all : end_of p left d more ≡ limit =
          end-skips p left d more some_left left (omega arith) (λ j low high. out j low (omega arith)) ∙ rw (none, there) (end_none p limit more)
          in
          sym all ∙ w.same

-- ---- what it says

end_low : (p : ℕ → Bool) (k d n : ℕ) → d ≤ end_of p k d n
unfolding end_of
end_low p zero d n = omega arith
end_low p (suc k) d n = go (eqb n 0) (p d) (end_low p k (suc d) (n - 1)) (end_low p k (suc d) n)
  where
    go : (a b : Bool) → suc d ≤ end_of p k (suc d) (n - 1) → suc d ≤ end_of p k (suc d) n
        → d ≤ (if a then d else if b then end_of p k (suc d) (n - 1) else end_of p k (suc d) n)
    go true b f g = omega arith
    go false true f g = omega arith
    go false false f g = omega arith

module _ (p : ℕ → Bool) (k d n t : ℕ) (low : d ≤ t) where
  Claim : Type 0
  Claim = ltb (count_in p d (t - d)) n ≡ ltb t (end_of p (suc k) d n)

  end-none-left : eqb n 0 ≡ true → Claim
  unfolding Claim
  end-none-left e =
      let zero_left = eqb-true n 0 e in
      rw (zero_left, end-here p (suc k) d, le-ltb t d low) (le-ltb (count_in p d (t - d)) 0 (omega arith))

  end-at-once : (n ≡ 0 → ⊥) → t ≡ d → Claim
  unfolding Claim
  end-at-once some_left same =
      let less : t - d ≡ 0 = omega arith in
      let counted : count_in p d (t - d) ≡ 0 = ap (count_in p d) less ∙ count_none p d in
      let high : t < end_of p (suc k) d n =
      by (p d)
      (λ e. omega (arith, end-yes p (suc k) d n (omega arith) some_left e, end_low p (suc k - 1) (d + 1) (n - 1)))
      (λ e. omega (arith, end-no p (suc k) d n (omega arith) some_left e, end_low p (suc k - 1) (d + 1) n))
      in
      lt-ltb (count_in p d (t - d)) n (omega arith) ∙ sym (lt-ltb t (end_of p (suc k) d n) high)

  end_later : (n ≡ 0 → ⊥) → d < t → ((m : ℕ) → ltb (count_in p (suc d) (t - suc d)) m ≡ ltb t (end_of p k (suc d) m)) → Claim
  unfolding Claim
  end_later some_left more after =
      let one : t - d ≡ suc (t - suc d) = omega arith in
      let less : suc k - 1 ≡ k = omega arith in
      by (p d)
      (λ e.
      let counted : count_in p d (t - d) ≡ suc (count_in p (suc d) (t - suc d)) = ap (count_in p d) one ∙ count-more p d (t - suc d) e in
      let ended : end_of p (suc k) d n ≡ end_of p k (suc d) (n - 1) = end-yes p (suc k) d n (omega arith) some_left e ∙ rw (less, add-one d) in
      rw (counted, ended)
      (same_tests (ltb (suc (count_in p (suc d) (t - suc d))) n) (ltb (count_in p (suc d) (t - suc d)) (n - 1))
      (λ g. lt-ltb (count_in p (suc d) (t - suc d)) (n - 1) (omega (arith, ltb-true (suc (count_in p (suc d) (t - suc d))) n g)))
      (λ g. lt-ltb (suc (count_in p (suc d) (t - suc d))) n (omega (arith, ltb-true (count_in p (suc d) (t - suc d)) (n - 1) g)))
      ∙ after (n - 1)))
      (λ e.
      let counted : count_in p d (t - d) ≡ count_in p (suc d) (t - suc d) = ap (count_in p d) one ∙ count_less p d (t - suc d) e in
      let ended : end_of p (suc k) d n ≡ end_of p k (suc d) n = end-no p (suc k) d n (omega arith) some_left e ∙ rw (less, add-one d) in
      rw (counted, ended) (after n))

-- a day lies before the end exactly when fewer than n days came before it
pub count-ends : (p : ℕ → Bool) (k d n t : ℕ) → d ≤ t → t < d + k → ltb (count_in p d (t - d)) n ≡ ltb t (end_of p k d n)
unfolding Claim
count-ends p zero d n t low high = absurd (omega arith)
count-ends p (suc k) d n t low high =
    by (eqb n 0) (end-none-left p k d n t low)
    (λ e.
    by (ltb d t)
    (λ f.
    let more = ltb-true d t f in
    end_later p k d n t low (eqb-false n 0 e) more (λ m. count-ends p k (suc d) m t (omega arith) (omega arith)))
    (λ f. end-at-once p k d n t low (eqb-false n 0 e) (omega (arith, ltb-false d t f))))

-- a day at the start's time of day is not after `until` exactly when it lies before the day that ends the rule
pub until-some : (start until rest : ℕ) → (start % 86400 ≤ until) → rest ≡ until - start % 86400 → min (rest / 86400 + 1) end_day ≡ until_day start until
unfolding until_day
until-some start until rest low is =
    by (leb end_day (rest / 86400))
    (λ e. rw (le-ltb until (start % 86400) low, ← is, e) (omega (arith, leb-true end_day (rest / 86400) e)))
    (λ e. rw (le-ltb until (start % 86400) low, ← is, e) (omega (arith, leb-false end_day (rest / 86400) e)))

pub until-none : (start until : ℕ) → until < start % 86400 → 0 ≡ until_day start until
unfolding until_day
until-none start until h = rw (lt-ltb until (start % 86400) h)

pub until-ends : (start until d : ℕ) → d < end_day → leb (on_day start d) until ≡ ltb d (until_day start until)
unfolding until_day
until-ends start until d h =
    by (ltb until (start % 86400))
    (λ e.
    let early = ltb-true until (start % 86400) e in
    rw e (lt-leb (on_day start d) until (omega arith) ∙ sym (le-ltb d 0 (omega arith))))
    (λ e.
    let late = ltb-false until (start % 86400) e in
    rw e
    (by (leb end_day ((until - start % 86400) / 86400))
    (λ f.
    let far = leb-true end_day ((until - start % 86400) / 86400) f in
    rw f (le-leb (on_day start d) until (omega arith) ∙ sym (lt-ltb d end_day h)))
    (λ f.
    rw f
    (same_tests (leb (on_day start d) until) (ltb d ((until - start % 86400) / 86400 + 1))
    (λ g. lt-ltb d ((until - start % 86400) / 86400 + 1) (omega (arith, leb-true (on_day start d) until g)))
    (λ g. le-leb (on_day start d) until (omega (arith, ltb-true d ((until - start % 86400) / 86400 + 1) g)))))))

-- whether a rule has a day, its count apart, by the number of the day
pub falls-by : (excluded : Bool) (end : End) (t : Terms) (row : List Bool) (start n : ℕ)
    → (if is_first excluded (start / 86400) n then true else if picks_on_by t row n then not_after (on_day start n) (until_from end) else false)
    ≡ falls_on_by excluded end t row start n
unfolding falls_on_by falls_by picks_on_by
falls-by excluded end t row start n = rw (day-number n)

-- the days after a day of the event that the rule does not pick are not its own
pub falls-between : (excluded : Bool) (end : End) (t : Terms) (row : List Bool) (start d n : ℕ) → start / 86400 ≤ d
    → Between (picks_on_by t row) d n → Between (falls_on_by excluded end t row start) d n
unfolding is_first
falls-between excluded end t row start d n low b =
    record { none = λ j after high. sym (falls-by excluded end t row start j) ∙ rw (b.none j after high, ne_eqb j (start / 86400) (omega arith)) (go excluded); more = b.more; few = b.few }
  where
    go : (x : Bool) → (if (if x then false else false) then true else false) ≡ false
    go true = refl
    go false = refl
