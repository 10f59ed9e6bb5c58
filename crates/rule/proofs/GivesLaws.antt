-- What it says that a rule gives a date-time, part by part: once for rules and excluded rules.
use Prim.Native.Nat.{ℕ, ◌-◌, ◌/◌, ◌%◌, ◌<◌, ◌≤◌}
use mathlib.Core.Bool.{Bool, true, ◌&&◌}
use mathlib.Core.Path.{◌≡◌}
use lib.Dec.{eqb, leb, ltb}
use borrow.Author.Tests.{eqb-true, ltb-true, leb-true, eq-eqb, lt-ltb}
use Rattle.rule.specs.Written.{RecurrenceRule}
use Rattle.rule.specs.Lists.{count_in, within}
use Rattle.rule.specs.Gives.{end_day, picks, falls, gives}
use Rattle.rule.proofs.Bools.{left, right}

-- a day that is picked is not before the start's
pub picks-low : (r : RecurrenceRule) (start d : ℕ) → picks r start d ≡ true → start / 86400 ≤ d
unfolding picks
picks-low r start d e = leb-true (start / 86400) d (left (leb (start / 86400) d) _ e)

-- the rule's days before day d
abbrev pub earlier : Bool → RecurrenceRule → ℕ → ℕ → ℕ
earlier excluded r start d = count_in (falls excluded r start) (start / 86400) (d - start / 86400)

pub record Given (excluded : Bool) (r : RecurrenceRule) (start x : ℕ) : Type 0 where
  pub timed : x % 86400 ≡ start % 86400
  pub last : x / 86400 < end_day
  pub falling : falls excluded r start (x / 86400) ≡ true
  pub few : within (earlier excluded r start (x / 86400)) r.count ≡ true

module _ (excluded : Bool) (r : RecurrenceRule) (start x : ℕ) where
  inner : Bool
  inner = falls excluded r start (x / 86400) && within (earlier excluded r start (x / 86400)) r.count

  pub given-parts : gives excluded r start x ≡ true → Given excluded r start x
  unfolding gives inner
  given-parts e =
      let rest = right (eqb (x % 86400) (start % 86400)) (ltb (x / 86400) end_day && inner) e in
      let found = right (ltb (x / 86400) end_day) inner rest in
      record {
        timed = eqb-true (x % 86400) (start % 86400) (left (eqb (x % 86400) (start % 86400)) (ltb (x / 86400) end_day && inner) e);
        last = ltb-true (x / 86400) end_day (left (ltb (x / 86400) end_day) inner rest);
        falling = left (falls excluded r start (x / 86400)) (within (earlier excluded r start (x / 86400)) r.count) found;
        few = right (falls excluded r start (x / 86400)) (within (earlier excluded r start (x / 86400)) r.count) found;
      }

  pub parts-given : Given excluded r start x → gives excluded r start x ≡ true
  unfolding gives
  parts-given g = rw (eq-eqb _ _ g.timed, lt-ltb _ _ g.last, g.falling, g.few)
