-- Whether a table has room: as many ids as a buffer has places for.
use Prim.Native.Nat.{ℕ, ◌+◌, ◌-◌, ◌*◌, ◌/◌, ◌<◌, ◌≤◌}
use mathlib.Core.Bool.{Bool, true, false}
use mathlib.Core.Path.{◌≡◌, sym, ◌∙◌}
use native.Mathlib.Omega.{arith}
use lib.Dec.{leb}
use lib.ListN.{length}
use borrow.Author.Tests.{le-leb, lt-leb, leb-true, leb-false}
use Rattle.rule.proofs.Bools.{by, same_tests}
use Rattle.window.specs.Inner.Lists.{list_in}
use Rattle.window.proofs.ListLaws.{length-parts, list-most}
use Rattle.source.specs.Inner.Room.{HasRoom}

-- some are taken from the places, and the others have to fit into the rest
pub rest-fits : (some more places : ℕ) → some ≤ places → leb more (places - some) ≡ leb (some + more) places
rest-fits some more places h =
    same_tests (leb more (places - some)) (leb (some + more) places)
    (λ e. le-leb (some + more) places (omega (arith, leb-true more (places - some) e)))
    (λ e. le-leb more (places - some) (omega (arith, leb-true (some + more) places e)))

pub none-fits : (some more places : ℕ) → places < some → false ≡ leb (some + more) places
none-fits some more places h = sym (lt-leb (some + more) places (omega arith))

module _ (p : ℕ → Bool) (count next to size : ℕ) (order : next ≤ to) where
  pub room-none : size < 12 → HasRoom p count next to size false
  room-none h from low is = sym (lt-leb (28 * length (list_in p from (to - from)) + 12) size (omega arith))

  module _ (large : 12 ≤ size) (places : ℕ) (is-places : places ≡ (size - 12) / 28) where
    pub room-few : places < count → HasRoom p count next to size false
    room-few h from low is =
        sym (lt-leb (28 * length (list_in p from (to - from)) + 12) size (omega (arith, length-parts p from next to low order)))

    module _ (fits : count ≤ places) where
      pub room-all : length (list_in p next (to - next)) ≤ places - count → HasRoom p count next to size true
      room-all h from low is =
          sym (le-leb (28 * length (list_in p from (to - from)) + 12) size (omega (arith, length-parts p from next to low order)))

      pub room-last : next ≡ to → HasRoom p count next to size true
      room-last same = room-all (omega (arith, list-most p next (to - next)))

      pub room_most : (most : ℕ) → length (list_in p next (to - next)) ≤ most → (r : Bool) → r ≡ leb most (places - count) → r ≡ true → HasRoom p count next to size true
      room_most most few r is e = room-all (omega (arith, leb-true most (places - count) (sym is ∙ e)))

      room-short : places - count < length (list_in p next (to - next)) → HasRoom p count next to size false
      room-short h from low is =
          sym (lt-leb (28 * length (list_in p from (to - from)) + 12) size (omega (arith, length-parts p from next to low order)))

      -- as the code asks
      pub room-counted : (rest : ℕ) → rest ≡ length (list_in p next (to - next)) → HasRoom p count next to size (leb rest (places - count))
      room-counted rest is-rest =
          by (leb rest (places - count))
          (λ e. rw e (room-all (omega (arith, leb-true rest (places - count) e))))
          (λ e. rw e (room-short (omega (arith, leb-false rest (places - count) e))))
