-- What a call that is not refused was given.
use Prim.Native.Nat.{ℕ, ◌≤◌}
use mathlib.Core.Bool.{true, ◌&&◌}
use mathlib.Core.List.{List}
use mathlib.Core.Path.{◌≡◌}
use native.Mathlib.Omega.{arith}
use lib.Dec.{eqb, leb}
use lib.IntN.{ℤ}
use lib.Signed.{le_z}
use borrow.Author.Tests.{eqb-true, leb-true}
use Rattle.rule.proofs.Bools.{left, right}
use Rattle.sheet.specs.Reading.{fault_of}
use Rattle.sheet.proofs.Accepted.{goes_on}
use Rattle.weeks.specs.Weeks.{is_monday, weeks_in}
use Rattle.weeks.specs.Replay.{ordered, is_range, refusal}

pub record Range (from to : ℤ) : Type 0 where
  pub first : is_monday from ≡ true
  pub last : is_monday to ≡ true
  pub later : le_z from to ≡ true

pub range-is : (from to : ℤ) → is_range from to ≡ true → Range from to
unfolding is_range
range-is from to e =
    let mondays = left (is_monday from && is_monday to) _ e in
    record {
      first = left (is_monday from) _ mondays;
      last = right (is_monday from) _ mondays;
      later = right (is_monday from && is_monday to) _ e;
    }

pub record Allowed (log : List ℤ) (sheet : List ℕ) (from to : ℤ) (room : ℕ) : Type 0 where
  pub in_order : ordered log ≡ true
  pub range : Range from to
  pub accepted : fault_of sheet ≡ 0
  pub fits : weeks_in from to ≤ room

pub refusal-none : (log : List ℤ) (sheet : List ℕ) (from to : ℤ) (room : ℕ) → refusal log sheet from to room ≡ 0 → Allowed log sheet from to room
unfolding refusal
refusal-none log sheet from to room e =
    let a = goes_on (ordered log) _ 30 (omega arith) e in
    let b = goes_on (is_range from to) _ 31 (omega arith) a.1 in
    let c = goes_on (eqb (fault_of sheet) 0) _ 32 (omega arith) b.1 in
    let d = goes_on (leb (weeks_in from to) room) 0 33 (omega arith) c.1 in
    record {
      in_order = a.0;
      range = range-is from to b.0;
      accepted = eqb-true (fault_of sheet) 0 c.0;
      fits = leb-true (weeks_in from to) room d.0;
    }
