-- The weeks of an upload log, of every call that keeps its contract, `Replays (replay_of ..)`.
use Prim.Native.Nat.{ℕ, ◌+◌, ◌<◌}
use mathlib.Core.Bool.{Bool, true, false, not, ◌&&◌}
use mathlib.Core.List.{List, [], ◌++◌}
use mathlib.Core.Path.{◌≡◌, refl, sym, ap, ◌∙◌, subst}
use native.Mathlib.Nat.{zero-add}
use native.Mathlib.Omega.{arith}
use lib.Dec.{eqb}
use lib.IntN.{ℤ, pos, negsuc}
use lib.ListN.{length, get_or, drop, length-append, length-drop, get_or-append}
use lib.Seq.{drop_at}
use borrow.Author.Tests.{eqb-true, eqb-false, eq-eqb, ne_eqb}
use Rattle.rule.specs.Lists.{any, count_in}
use Rattle.rule.proofs.Bools.{by, left, right, not-both}
use Rattle.rule.proofs.Counting.{count-nothing}
use Rattle.sheet.specs.Runs.{tabulate}
use Rattle.sheet.specs.Records.{Row}
use Rattle.sheet.specs.Reading.{count_of, rows_of}
use Rattle.sheet.proofs.RunLaws.{tab-length, tab-at}
use Rattle.weeks.specs.Weeks.{weeks_in, is_reported, is_shut, is_missing, uploads_in, place_of}
use Rattle.weeks.specs.Replay.{refusal, Replay, sorted, refused, replay_of, Replays}
use Rattle.weeks.proofs.Allowed.{Allowed, refusal-none}
use Rattle.weeks.proofs.Theorems.{one_class_lem, tallies-sum, whole-weeks, uploads-sum}
use Rattle.demands.specs.Conditions.{Given}
use Rattle.demands.specs.Weeks.{weeks_conditions, WeeksAnswered, WeeksSorted, SameReplays, ShutsNothing}
use Rattle.demands.proofs.Given.{given_by, given_by_lem}

-- ---- the place of a week, by its class

module _ (log : List ℤ) (rows : List Row) (from : ℤ) (i : ℕ) where
  reported-place : is_reported log from i ≡ true → place_of log rows from i ≡ pos (uploads_in log from i)
  unfolding place_of
  reported-place e = rw e

  shut-place : is_shut log rows from i ≡ true → place_of log rows from i ≡ negsuc 0
  unfolding place_of is_shut
  shut-place e =
      let none = not-both (is_reported log from i) (left (not (is_reported log from i)) _ e) in
      rw (none, right (not (is_reported log from i)) _ e)

  missing-place : is_missing log rows from i ≡ true → place_of log rows from i ≡ negsuc 1
  unfolding place_of is_missing
  missing-place e =
      let none = not-both (is_reported log from i) (left (not (is_reported log from i)) _ e) in
      let unshut = not-both (is_shut log rows from i) (right (not (is_reported log from i)) _ e) in
      rw (none, unshut)

-- ---- demand 1

module _ (log : List ℤ) (sheet : List ℕ) (from to : ℤ) (before : List ℤ) where
  abbrev given : ℕ
  given = refusal log sheet from to (length before)

  weeks-given : given_by (weeks_conditions log sheet from to (length before)) ≡ given
  unfolding weeks_conditions given_by refusal
  weeks-given = refl

  replay-refused : (given ≡ 0 → ⊥) → replay_of log sheet from to before ≡ refused given before
  unfolding replay_of
  replay-refused h = rw (ne_eqb given 0 h)

  replay-done : given ≡ 0 → replay_of log sheet from to before ≡ sorted log (rows_of sheet) from (weeks_in from to) before
  unfolding replay_of
  replay-done h = rw (eq-eqb given 0 h)

  replay-answer : (replay_of log sheet from to before).answer ≡ given
  unfolding sorted refused
  replay-answer =
      by (eqb given 0)
      (λ e. ap (λ (r : Replay). r.answer) (replay-done (eqb-true given 0 e)) ∙ sym (eqb-true given 0 e))
      (λ e. ap (λ (r : Replay). r.answer) (replay-refused (eqb-false given 0 e)))

  module _ (answer reported shut missing : ℕ) (after : List ℤ) (g : Replays (replay_of log sheet from to before) answer reported shut missing after) where
    is-given : answer ≡ given
    is-given = g.answer_is ∙ replay-answer

    is-refused : (answer ≡ 0 → ⊥) → replay_of log sheet from to before ≡ refused given before
    is-refused h = replay-refused (λ e. h (is-given ∙ e))

    pub weeks-answered : WeeksAnswered log sheet from to before answer reported shut missing after
    unfolding refused
    weeks-answered =
        record {
          one = subst (Given (weeks_conditions log sheet from to (length before))) (weeks-given ∙ sym is-given) (given_by_lem (weeks_conditions log sheet from to (length before)));
          refused_tallies =
              λ h. (
                g.reported_is ∙ ap (λ (r : Replay). r.reported) (is-refused h),
                (g.shut_is ∙ ap (λ (r : Replay). r.shut) (is-refused h), g.missing_is ∙ ap (λ (r : Replay). r.missing) (is-refused h)),
              );
          refused_places = λ h. g.places_are ∙ ap (λ (r : Replay). r.places) (is-refused h);
        }

    -- ---- a call that is answered 0

    module _ (done : answer ≡ 0) where
      abbrev rows : List Row
      rows = rows_of sheet

      abbrev n : ℕ
      n = weeks_in from to

      abbrev list : List ℤ
      list = tabulate (place_of log rows from) 0 n

      allowed : Allowed log sheet from to (length before)
      allowed = refusal-none log sheet from to (length before) (sym is-given ∙ done)

      is-done : replay_of log sheet from to before ≡ sorted log rows from n before
      is-done = replay-done (sym is-given ∙ done)

      places_are : after ≡ list ++ drop n before
      unfolding sorted
      places_are = g.places_are ∙ ap (λ (r : Replay). r.places) is-done

      reported_is : reported ≡ count_in (is_reported log from) 0 n
      unfolding sorted
      reported_is = g.reported_is ∙ ap (λ (r : Replay). r.reported) is-done

      shut_is : shut ≡ count_in (is_shut log rows from) 0 n
      unfolding sorted
      shut_is = g.shut_is ∙ ap (λ (r : Replay). r.shut) is-done

      missing_is : missing ≡ count_in (is_missing log rows from) 0 n
      unfolding sorted
      missing_is = g.missing_is ∙ ap (λ (r : Replay). r.missing) is-done

      at : (i : ℕ) → i < n → get_or after i (pos 0) ≡ place_of log rows from i
      at i h =
          let long = tab-length (place_of log rows from) 0 n in
          rw places_are
          (get_or-append list (drop n before) (pos 0) i (omega (arith, long))
          ∙ tab-at (place_of log rows from) 0 n i (pos 0) h ∙ ap (place_of log rows from) (zero-add i))

      pub weeks-sorted : WeeksSorted log rows from to before reported shut missing after
      weeks-sorted =
          record {
            one_class = one_class_lem log rows from;
            reported_place = λ i h e. at i h ∙ reported-place log rows from i e;
            shut_place = λ i h e. at i h ∙ shut-place log rows from i e;
            missing_place = λ i h e. at i h ∙ missing-place log rows from i e;
            reported_is = reported_is;
            shut_is = shut_is;
            missing_is = missing_is;
            tallies = rw (reported_is, shut_is, missing_is) (tallies-sum log rows from n);
            whole_weeks = whole-weeks from to allowed.range;
            uploads = uploads-sum log from to allowed.range;
            others = ap (drop n) places_are ∙ drop_at list (drop n before) n (tab-length (place_of log rows from) 0 n);
            whole =
                ap length places_are
                ∙ omega (arith, length-append list (drop n before), tab-length (place_of log rows from) 0 n, length-drop n before, allowed.fits);
          }

-- ---- demand 3

pub same-replays : (sheet sheet' : List ℕ) → sheet ≡ sheet' → SameReplays sheet sheet'
same-replays sheet sheet' e log from to before answer answer' reported reported' shut shut' missing missing' after after' g g' =
    let is = ap (λ (s : List ℕ). replay_of log s from to before) e in
    record {
      answers = g.answer_is ∙ ap (λ (r : Replay). r.answer) is ∙ sym g'.answer_is;
      reporteds = g.reported_is ∙ ap (λ (r : Replay). r.reported) is ∙ sym g'.reported_is;
      shuts = g.shut_is ∙ ap (λ (r : Replay). r.shut) is ∙ sym g'.shut_is;
      missings = g.missing_is ∙ ap (λ (r : Replay). r.missing) is ∙ sym g'.missing_is;
      places = g.places_are ∙ ap (λ (r : Replay). r.places) is ∙ sym g'.places_are;
    }

never : (log : List ℤ) (from : ℤ) (i : ℕ) → is_shut log [] from i ≡ false
unfolding is_shut any
never log from i = go (is_reported log from i)
  where
    go : (a : Bool) → (not a && false) ≡ false
    go true = refl
    go false = refl

empty : (sheet : List ℕ) → count_of sheet ≡ 0 → rows_of sheet ≡ []
unfolding rows_of tabulate
empty sheet none = rw none

-- a sheet of no records shuts nothing
pub shuts-nothing : (sheet : List ℕ) → count_of sheet ≡ 0 → ShutsNothing sheet
shuts-nothing sheet none log from to before answer reported shut missing after g =
    by (eqb answer 0)
    (λ e.
    shut_is log sheet from to before answer reported shut missing after g (eqb-true answer 0 e)
    ∙ rw (empty sheet none) (count-nothing (is_shut log [] from) 0 (weeks_in from to) (λ j a b. never log from j)))
    (λ e. ((weeks-answered log sheet from to before answer reported shut missing after g).refused_tallies (eqb-false answer 0 e)).1.0)
