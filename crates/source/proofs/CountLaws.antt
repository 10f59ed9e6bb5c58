-- The loop that counts, chunk by chunk.
use Prim.Native.Nat.{ℕ, ◌+◌, ◌-◌, ◌≤◌}
use mathlib.Core.Bool.{Bool}
use mathlib.Core.List.{List}
use mathlib.Core.Path.{◌≡◌, ap, ◌∙◌}
use native.Mathlib.Omega.{arith}
use lib.ListN.{length}
use Rattle.window.specs.Inner.Lists.{list_in}
use Rattle.window.specs.Inner.Handed.{Handed}
use Rattle.window.proofs.ListLaws.{length-parts, list-most}
use Rattle.window.proofs.HandLaws.{handed-count}

-- The ids before `at` are counted.
pub record CountedTo (p : ℕ → Bool) (from to at found : ℕ) : Type 0 where
  pub low : from ≤ at
  pub order : at ≤ to
  pub is : found ≡ length (list_in p from (at - from))

module _ (p : ℕ → Bool) (from to : ℕ) where
  pub count-starts : from ≤ to → CountedTo p from to from 0
  count-starts order =
      let none : from - from ≡ 0 = omega arith in
      let nothing = list-most p from (from - from) in
      record { low = omega arith; order = order; is = omega arith }

  module _ (at found : ℕ) (c : CountedTo p from to at found) where
    pub count-few : found ≤ at
    count-few = omega (arith, c.is, list-most p from (at - from))

    pub count-more : (before after : List ℕ) (count next : ℕ) → Handed p at to before after count next → CountedTo p from to next (found + count)
    count-more before after count next h =
        let low = c.low in
        let later = h.low in
        record {
          low = omega arith;
          order = h.high;
          is = omega (arith, c.is, handed-count p at to before after count next h, length-parts p from at next low later);
        }

    pub count-ends : to ≤ at → found ≡ length (list_in p from (to - from))
    count-ends over =
        let order = c.order in
        let same : at - from ≡ to - from = omega arith in
        c.is ∙ ap (λ (n : ℕ). length (list_in p from n)) same
