-- The call's results are those of the definition, refused or done.
use Prim.Native.Nat.{ℕ, ◌+◌, ◌*◌, ◌≤◌}
use mathlib.Core.List.{List, ◌++◌}
use mathlib.Core.Path.{◌≡◌, refl, sym, ap, ◌∙◌}
use native.Mathlib.Omega.{arith}
use lib.IntN.{ℤ}
use lib.ListN.{length, take, drop}
use lib.Seq.{length-take-le}
use mir.Syntax.{w64}
use mir.Val.{SFits}
use borrow.Author.Tests.{eq-eqb, ne_eqb}
use Rattle.sheet.specs.Runs.{tabulate}
use Rattle.sheet.specs.Reading.{count_of, rows_of}
use Rattle.sheet.proofs.Accepted.{rows_before}
use Rattle.weeks.specs.Weeks.{weeks_in, count, place_of}
use Rattle.weeks.specs.Replay.{refusal, sorted, refused, replay_of, Replays}
use Rattle.weeks.specs.Inner.Marks.{up}
use Rattle.weeks.specs.Inner.Places.{in_class}
use Rattle.weeks.proofs.Instants.{monday-positive}
use Rattle.weeks.proofs.PlaceLaws.{places_are, spans-are, rows_fit, reported-tally, shut-tally, missing-tally}
use Rattle.weeks.proofs.Allowed.{refusal-none}
use Rattle.replay.specs.Inner.Sorted.{filled, Sorted}

module _ (log : List ℤ) (sheet : List ℕ) (from to : ℤ) (places : List ℤ) where
  pub refused-is : (answer : ℕ) → answer ≡ refusal log sheet from to (length places) → (answer ≡ 0 → ⊥) → Replays (replay_of log sheet from to places) answer 0 0 0 places
  unfolding replay_of refused
  refused-is answer is h =
      rw (ne_eqb (refusal log sheet from to (length places)) 0 (λ e. h (is ∙ e)))
      (record { answer_is = is; reported_is = refl; shut_is = refl; missing_is = refl; places_are = refl })

  module _ (none : 0 ≡ refusal log sheet from to (length places)) where
    pub room : (n : ℕ) → n ≡ weeks_in from to → n ≤ length places
    room n e = omega (arith, e, (refusal-none log sheet from to (length places) (sym none)).fits)

    pub records : 28 * count_of sheet + 12 ≡ length sheet
    records = rows_before sheet (refusal-none log sheet from to (length places) (sym none)).accepted

    -- ---- the places are filled as the definition says

    module _ (f : SFits w64 from) where
      filled_is : (n : ℕ) → filled log sheet (count_of sheet) (up from) n ≡ tabulate (place_of log (rows_of sheet) from) 0 n
      unfolding filled
      filled_is n =
          let positive = monday-positive from f (refusal-none log sheet from to (length places) (sym none)).range.first in
          rw (spans-are sheet (up from)) (places_are log (rows_of sheet) from n f positive (rows_fit sheet))

      done : (p : List ℤ) (reported shut missing : ℕ) → Sorted log sheet (count_of sheet) (up from) (weeks_in from to) p reported shut missing
          → Replays (sorted log (rows_of sheet) from (weeks_in from to) places) 0 reported shut missing (p ++ drop (weeks_in from to) places)
      unfolding sorted
      done p reported shut missing s =
          let n = weeks_in from to in
          let e = filled_is n in
          record {
            answer_is = refl;
            reported_is = s.reported_is ∙ ap (count (in_class 0)) e ∙ reported-tally log (rows_of sheet) from n;
            shut_is = s.shut_is ∙ ap (count (in_class 1)) e ∙ shut-tally log (rows_of sheet) from n;
            missing_is = s.missing_is ∙ ap (count (in_class 2)) e ∙ missing-tally log (rows_of sheet) from n;
            places_are = ap (λ (l : List ℤ). l ++ drop n places) (s.places ∙ e);
          }

      pub done-is : (n b k : ℕ) → n ≡ weeks_in from to → b ≡ up from → k ≡ count_of sheet
          → (p : List ℤ) (reported shut missing : ℕ) → Sorted log sheet k b (length (take n places)) p reported shut missing
          → Replays (replay_of log sheet from to places) 0 reported shut missing (p ++ drop n places)
      unfolding replay_of
      done-is n b k en eb ek p reported shut missing s =
          let long : length (take (weeks_in from to) places) ≡ weeks_in from to = length-take-le (weeks_in from to) places (room _ refl) in
          rw (eq-eqb (refusal log sheet from to (length places)) 0 (sym none), en)
          (done p reported shut missing (rw (ek, eb, en, long) at s))
