-- A run that is filled, and the overrides: together they have the set.
use Rattle.std.specs.Prelude.{if◌then◌else◌}
use Prim.Native.Nat.{ℕ, ◌+◌, ◌-◌, ◌*◌, ◌/◌, ◌%◌, ◌<◌, ◌≤◌}
use mathlib.Core.Bool.{Bool, true, false, ◌||◌}
use mathlib.Core.List.{List}
use mathlib.Core.Path.{◌≡◌, refl, sym, ap, ◌∙◌, subst}
use native.Mathlib.Omega.{arith}
use lib.Dec.{eqb, ltb}
use lib.ListN.{get_or}
use borrow.Author.Tests.{ltb-false, eqb-true}
use Rattle.rule.specs.Gives.{on_day}
use Rattle.rule.proofs.Bools.{by}
use Rattle.track.specs.Inner.Runs.{run}
use Rattle.track.proofs.RunLaws.{run_at}
use Rattle.dates.specs.Inner.Overrides.{is_named, is_kept}
use Rattle.dates.specs.Inner.Loaded.{Loaded, by_rules, is_in, is_on}
use Rattle.window.specs.Inner.Next.{next_of, is_hit, is_there, lower, renewed, Stretch}
use Rattle.window.proofs.NextLaws.{Next, next-is, next-made, next-lower, next-later}

-- ---- what is next in both

pub there-next : (hits : List Bool) (first start : ℕ) (ids : List ℕ) (gone : List Bool) (at to pending : ℕ) → at ≤ to
    → pending ≡ next_of (is_kept ids gone) at to
    → lower (next_of (is_hit hits first start) at to) pending ≡ next_of (is_there hits first start ids gone) at to
unfolding is_there
there-next hits first start ids gone at to pending order is =
    next-made (is_there hits first start ids gone) at to order _
    (next-lower (is_hit hits first start) (is_kept ids gone) at to _ pending (next-is (is_hit hits first start) at to order)
    (subst (Next (is_kept ids gone) at to) (sym is) (next-is (is_kept ids gone) at to order)))

pub there-is : (hits : List Bool) (first start : ℕ) (ids : List ℕ) (gone : List Bool) (at to pending x : ℕ) → at ≤ to
    → pending ≡ next_of (is_kept ids gone) at to → x ≡ lower (next_of (is_hit hits first start) at to) pending
    → Next (is_there hits first start ids gone) at to x
there-is hits first start ids gone at to pending x order kept is =
    subst (Next (is_there hits first start ids gone) at to) (sym (is ∙ there-next hits first start ids gone at to pending order kept))
    (next-is (is_there hits first start ids gone) at to order)

pub renewed-is : (ids : List ℕ) (gone : List Bool) (pending a b to : ℕ) → a ≤ b → b ≤ to → pending ≡ next_of (is_kept ids gone) a to
    → renewed ids gone pending b to ≡ next_of (is_kept ids gone) b to
unfolding renewed
renewed-is ids gone pending a b to before order is =
    by (ltb pending b) (λ e. rw e)
    (λ e.
    rw e
    (next-made (is_kept ids gone) b to order pending
    (next-later (is_kept ids gone) a b to pending before (ltb-false pending b e)
    (subst (Next (is_kept ids gone) a to) (sym is) (next-is (is_kept ids gone) a to (omega arith))))))

pub renewed-next : (ids : List ℕ) (gone : List Bool) (pending a b to next : ℕ) → a ≤ b → b ≤ to → pending ≡ next_of (is_kept ids gone) a to
    → next ≡ renewed ids gone pending b to → next ≡ next_of (is_kept ids gone) b to
renewed-next ids gone pending a b to next before order is renew = renew ∙ renewed-is ids gone pending a b to before order is

-- ---- a run that is filled with the set

module _ (l : Loaded) (hits : List Bool) (first n : ℕ) (is : hits ≡ run (is_on l) first n) (x : ℕ) (low : 86400 * first ≤ x) (high : x < 86400 * (first + n)) where
  timed-hit : x % 86400 ≡ l.start % 86400 → get_or hits (x / 86400 - first) false ≡ is_in l x
  unfolding is_on
  timed-hit timed =
      let day : first + (x / 86400 - first) ≡ x / 86400 = omega arith in
      let here : on_day l.start (x / 86400) ≡ x = omega arith in
      ap (λ (h : List Bool). get_or h (x / 86400 - first) false) is
      ∙ (run_at (is_on l) first n (x / 86400 - first) (omega arith) ∙ (ap (is_on l) day ∙ ap (is_in l) here))

  absorbed : (is_in l x || is_kept l.ids l.gone x) ≡ is_in l x
  unfolding is_in is_kept
  absorbed = go (is_named true l.ids l.gone x) (is_named false l.ids l.gone x) (if eqb (x % 86400) (l.start % 86400) then by_rules l (x / 86400) else false)
    where
      go : (a b c : Bool) → ((if a then false else if b then true else c) || (if a then false else b)) ≡ (if a then false else if b then true else c)
      go true b c = refl
      go false true c = refl
      go false false true = refl
      go false false false = refl

  untimed : eqb (x % 86400) (l.start % 86400) ≡ false → is_kept l.ids l.gone x ≡ is_in l x
  unfolding is_in is_kept
  untimed e = rw e (go (is_named true l.ids l.gone x) (is_named false l.ids l.gone x))
    where
      go : (a b : Bool) → (if a then false else b) ≡ (if a then false else if b then true else false)
      go true b = refl
      go false true = refl
      go false false = refl

  pub run-there : is_there hits first l.start l.ids l.gone x ≡ is_in l x
  unfolding is_there is_hit
  run-there =
      by (eqb (x % 86400) (l.start % 86400))
      (λ e. rw (e, timed-hit (eqb-true (x % 86400) (l.start % 86400) e)) absorbed)
      (λ e. rw e (untimed e))

-- in a stretch of its days
module _ (l : Loaded) (hits : List Bool) (first n : ℕ) (is : hits ≡ run (is_on l) first n) (at to : ℕ) (s : Stretch first n at to) where
  pub same-there : (j : ℕ) → at ≤ j → j < to → is_there hits first l.start l.ids l.gone j ≡ is_in l j
  same-there j low high =
      let below = s.low in
      let above = s.high in
      run-there l hits first n is j (omega arith) (omega arith)
