-- Ids handed over in a lent slice: the loop that collects them, and what is known of what was handed over.
use Rattle.std.specs.Prelude.{if◌then◌else◌}
use Prim.Native.Nat.{ℕ, suc, ◌+◌, ◌-◌, ◌<◌, ◌≤◌}
use mathlib.Core.Bool.{Bool, true, false}
use mathlib.Core.List.{List, [], ◌∷◌, ◌++◌}
use mathlib.Core.Path.{◌≡◌, refl, sym, ap, ◌∙◌, subst}
use native.Mathlib.Omega.{arith}
use lib.Dec.{eqb}
use lib.ListN.{length, take, set, get_or, length-set}
use lib.Seq.{take-suc-set, length-take-le}
use borrow.Author.Tests.{eq-eqb, ne_eqb}
use Rattle.window.specs.Inner.Lists.{list_in}
use Rattle.window.specs.Inner.Handed.{Handed}
use Rattle.window.proofs.NextLaws.{Next}
use Rattle.window.proofs.ListLaws.{list_same, list-empty, list-snoc, list-end, list-most, list-below}

-- ---- the loop that collects: the ids so far stand in the slice

pub record HandAt (p : ℕ → Bool) (from to : ℕ) (before after : List ℕ) (n at : ℕ) : Type 0 where
  pub low : from + n ≤ at
  pub order : at ≤ to
  pub size : length after ≡ length before
  pub few : n ≤ length before
  pub ids : take n after ≡ list_in p from (at - from)

module _ (p : ℕ → Bool) (from to : ℕ) (before : List ℕ) where
  pub hand-start : from ≤ to → HandAt p from to before before 0 from
  hand-start order =
      let none : from - from ≡ 0 = omega arith in
      record { low = omega arith; order = order; size = refl; few = omega arith; ids = sym (ap (list_in p from) none ∙ list-empty p from) }

  module _ (after : List ℕ) (n at : ℕ) (h : HandAt p from to before after n at) where
    pub hand-one : (x : ℕ) → Next p at to x → x < to → n < length after → HandAt p from to before (set after n x) (n + 1) (x + 1)
    hand-one x f more room =
        let one : n + 1 ≡ suc n = omega arith in
        record {
          low = omega (arith, h.low, f.low);
          order = omega arith;
          size = length-set after n x ∙ h.size;
          few = omega (arith, h.size);
          ids =
              ap (λ (k : ℕ). take k (set after n x)) one
              ∙ (take-suc-set after n x room
              ∙ (ap (λ (l : List ℕ). l ++ (x ∷ [])) h.ids ∙ sym (list-snoc p from at to x (omega (arith, h.low)) f more)));
        }

    pub hand-full : 0 < length before → length after ≤ n → Handed p from to before after n at
    hand-full room full =
        record { size = h.size; few = h.few; low = omega (arith, h.low); high = h.order; ahead = λ q. omega (arith, h.low, h.size); ids = h.ids }

    pub hand-none : (x : ℕ) → Next p at to x → to ≤ x → Handed p from to before after n to
    hand-none x f over =
        record {
          size = h.size;
          few = h.few;
          low = omega (arith, h.low, h.order);
          high = omega arith;
          ahead = λ q. q;
          ids = h.ids ∙ sym (list-end p from at to x (omega (arith, h.low)) f over h.order);
        }

    pub hand-over : to ≤ at → Handed p from to before after n at
    hand-over over =
        record { size = h.size; few = h.few; low = omega (arith, h.low); high = h.order; ahead = λ q. omega arith; ids = h.ids }

-- no second, no id
pub handed-none : (p : ℕ → Bool) (from to : ℕ) (before : List ℕ) → from ≡ to → Handed p from to before before 0 from
handed-none p from to before same = hand-over p from to before before 0 from (hand-start p from to before (omega arith)) (omega arith)

-- ---- by other tests, and in a wider stretch

pub handed-same : (p q : ℕ → Bool) (from to : ℕ) (before after : List ℕ) (count next : ℕ) → ((j : ℕ) → from ≤ j → j < to → p j ≡ q j)
    → Handed p from to before after count next → Handed q from to before after count next
handed-same p q from to before after count next same h =
    let low = h.low in
    let high = h.high in
    record {
      size = h.size;
      few = h.few;
      low = low;
      high = high;
      ahead = h.ahead;
      ids = h.ids ∙ list_same p q from (next - from) (λ j a b. same j a (omega arith));
    }

pub handed-wider : (p : ℕ → Bool) (from end to : ℕ) (before after : List ℕ) (count next : ℕ) → end ≤ to → (from < to → from < end)
    → Handed p from end before after count next → Handed p from to before after count next
handed-wider p from end to before after count next within later h =
    record { size = h.size; few = h.few; low = h.low; high = omega (arith, h.high); ahead = λ k. h.ahead (later k); ids = h.ids }

-- ---- how many, and how late

module _ (p : ℕ → Bool) (from to : ℕ) (before after : List ℕ) (count next : ℕ) (h : Handed p from to before after count next) where
  pub handed-count : count ≡ length (list_in p from (next - from))
  handed-count = sym (length-take-le count after (omega (arith, h.few, h.size))) ∙ ap length h.ids

  pub handed-few : count ≤ next
  handed-few = omega (arith, handed-count, list-most p from (next - from))

  -- each id is before the end
  pub chunk-early : (k : ℕ) → k < length (take count after) → get_or (take count after) k 0 < to
  chunk-early k less =
      let low = h.low in
      let high = h.high in
      let here : k < length (list_in p from (next - from)) = subst (λ (l : List ℕ). k < length l) h.ids less in
      let early : get_or (list_in p from (next - from)) k 0 < from + (next - from) = list-below p from (next - from) k here in
      subst (λ (l : List ℕ). get_or l k 0 < to) (sym h.ids) (omega arith)

-- one second alone
pub one-second : (p : ℕ → Bool) (x : ℕ) (before after : List ℕ) (count next : ℕ) → Handed p x (x + 1) before after count next
    → count ≡ (if p x then 1 else 0)
unfolding list_in
one-second p x before after count next h =
    let more = h.ahead (omega arith) in
    let one : next - x ≡ 1 = omega (arith, h.high) in
    handed-count p x (x + 1) before after count next h ∙ (ap (λ (k : ℕ). length (list_in p x k)) one ∙ go (p x))
  where
    go : (b : Bool) → length (if b then x ∷ [] else []) ≡ (if b then 1 else 0)
    go true = refl
    go false = refl

-- so whether there is one is whether it passes
pub one_found : (p : ℕ → Bool) (x : ℕ) (before after : List ℕ) (count next : ℕ) → Handed p x (x + 1) before after count next → eqb count 1 ≡ p x
one_found p x before after count next h = go (p x) (one-second p x before after count next h)
  where
    go : (b : Bool) → count ≡ (if b then 1 else 0) → eqb count 1 ≡ b
    go true e = eq-eqb count 1 e
    go false e = ne_eqb count 1 (λ one. absurd (omega (arith, e)))
