-- A run that was marked step by step has the set of the event.
use Rattle.std.specs.Prelude.{if◌then◌else◌}
use Prim.Native.Nat.{ℕ, zero, suc, ◌/◌, ◌%◌}
use mathlib.Core.Bool.{Bool, true, false}
use mathlib.Core.List.{List, ◌∷◌}
use mathlib.Core.Path.{◌≡◌, refl, ap, ◌∙◌}
use native.Mathlib.Omega.{arith}
use lib.Dec.{eqb}
use borrow.Author.Tests.{eq-eqb, eqb-true}
use Rattle.rule.specs.Gives.{on_day}
use Rattle.rule.proofs.Bools.{same_tests}
use Rattle.track.specs.Inner.Runs.{marked, run}
use Rattle.track.specs.Inner.Settle.{cleared}
use Rattle.track.proofs.RunLaws.{marked-run, run-same}
use Rattle.dates.specs.Inner.Tracked.{some_has, mark_each}
use Rattle.dates.specs.Inner.Overrides.{is_date, names_day}
use Rattle.dates.specs.Inner.Loaded.{Loaded, by_rules, is_in, is_on}
use Rattle.dates.proofs.TrackLaws.{each-run}

clear-run : (d n : ℕ) → cleared n ≡ run (λ e. false) d n
unfolding run cleared
clear-run d zero = refl
clear-run d (suc n) = ap (λ (l : List Bool). false ∷ l) (clear-run (suc d) n)

module _ (l : Loaded) where
  excludes : ℕ → Bool
  excludes d = some_has l.excluded l.excluded_flags (l.start / 86400) d

  ruled : ℕ → Bool
  ruled d = some_has l.rules l.rule_flags (l.start / 86400) d

  named : ℕ → Bool
  named d = names_day false l.ids l.gone l.start d

  bars : ℕ → Bool
  bars d = names_day true l.ids l.gone l.start d

  -- the order of the marks, last first
  stepped : ℕ → Bool
  stepped d =
      if bars d then false
      else if named d then true
      else if excludes d then false
      else if is_date true l.start l.start d then true
      else if ruled d then true
      else false

  same_start : (d : ℕ) → is_date true l.start l.start d ≡ eqb d (l.start / 86400)
  unfolding is_date
  same_start d =
      same_tests (eqb l.start (on_day l.start d)) (eqb d (l.start / 86400))
      (λ e. eq-eqb d (l.start / 86400) (omega (arith, eqb-true l.start (on_day l.start d) e)))
      (λ e. eq-eqb l.start (on_day l.start d) (omega (arith, eqb-true d (l.start / 86400) e)))

  if-same : (b : Bool) → (if b then true else false) ≡ b
  if-same true = refl
  if-same false = refl

  stepped-is : (d : ℕ) → stepped d ≡ is_on l d
  unfolding stepped is_on is_in by_rules excludes ruled named bars names_day
  stepped-is d =
      let day : on_day l.start d / 86400 ≡ d = omega arith in
      let time : on_day l.start d % 86400 ≡ l.start % 86400 = omega arith in
      rw (same_start d, day, eq-eqb (on_day l.start d % 86400) (l.start % 86400) time, if-same (some_has l.rules l.rule_flags (l.start / 86400) d))

  module _ (first n : ℕ) (a b c d e f : List Bool) where
    pub filled : a ≡ cleared n
        → b ≡ mark_each l.rules l.rule_flags true first (l.start / 86400) a
        → c ≡ marked (is_date true l.start l.start) true first b
        → d ≡ mark_each l.excluded l.excluded_flags false first (l.start / 86400) c
        → e ≡ marked (names_day false l.ids l.gone l.start) true first d
        → f ≡ marked (names_day true l.ids l.gone l.start) false first e
        → f ≡ run (is_on l) first n
    unfolding stepped excludes ruled named bars
    filled ea eb ec ed ee ef =
        let a1 : a ≡ run (λ x. false) first n = ea ∙ clear-run first n in
        let b1 : b ≡ run (λ x. if ruled x then true else false) first n =
        eb ∙ (ap (mark_each l.rules l.rule_flags true first (l.start / 86400)) a1
        ∙ each-run l.rules l.rule_flags true (λ x. false) first (l.start / 86400) n)
        in
        let c1 : c ≡ run (λ x. if is_date true l.start l.start x then true else if ruled x then true else false) first n =
        ec ∙ (ap (marked (is_date true l.start l.start) true first) b1
        ∙ marked-run (is_date true l.start l.start) (λ x. if ruled x then true else false) true first n)
        in
        let d1 : d ≡ run (λ x. if excludes x then false else if is_date true l.start l.start x then true else if ruled x then true else false) first n =
        ed ∙ (ap (mark_each l.excluded l.excluded_flags false first (l.start / 86400)) c1
        ∙ each-run l.excluded l.excluded_flags false (λ x. if is_date true l.start l.start x then true else if ruled x then true else false) first (l.start / 86400) n)
        in
        let e1 : e ≡ run (λ x. if named x then true else if excludes x then false else if is_date true l.start l.start x then true else if ruled x then true else false) first n =
        ee ∙ (ap (marked (names_day false l.ids l.gone l.start) true first) d1
        ∙ marked-run (names_day false l.ids l.gone l.start) (λ x. if excludes x then false else if is_date true l.start l.start x then true else if ruled x then true else false) true first n)
        in
        let f1 : f ≡ run stepped first n =
        ef ∙ (ap (marked (names_day true l.ids l.gone l.start) false first) e1
        ∙ marked-run (names_day true l.ids l.gone l.start) (λ x. if named x then true else if excludes x then false else if is_date true l.start l.start x then true else if ruled x then true else false) false first n)
        in
        f1 ∙ run-same stepped (is_on l) first n (λ x low high. stepped-is x)
