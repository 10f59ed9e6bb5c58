-- The date-times of a window as a list: its parts, its next, its length, and that it is the list of ids of an event.
use Rattle.std.specs.Prelude.{if◌then◌else◌}
use Prim.Native.Nat.{ℕ, zero, suc, ◌+◌, ◌-◌, ◌*◌, ◌<◌, ◌≤◌}
use mathlib.Core.Bool.{Bool, true, false}
use mathlib.Core.List.{List, [], ◌∷◌, ◌++◌, append-nil}
use mathlib.Core.Path.{◌≡◌, refl, sym, ap, ◌∙◌}
use native.Mathlib.Omega.{arith}
use lib.ListN.{length, get_or, length-append}
use Rattle.rule.specs.Lists.{count_in}
use Rattle.rule.proofs.Counting.{count_most}
use Rattle.recurrence.specs.Event.{Event, in_set}
use Rattle.recurrence.specs.Ids.{seconds_from, keep, ids}
use Rattle.recurrence.proofs.Few.{keep-length}
use Rattle.dates.specs.Inner.Loaded.{Loaded, is_in}
use Rattle.dates.specs.Inner.Stands.{Stands}
use Rattle.dates.proofs.SetLaws.{in-set}
use Rattle.window.specs.Inner.Lists.{list_in}
use Rattle.window.proofs.NextLaws.{Next}

-- ---- as what is kept of the stretch

kept-list : (p : ℕ → Bool) (a n : ℕ) → keep p (seconds_from a n) ≡ list_in p a n
unfolding keep seconds_from list_in
kept-list p a zero = refl
kept-list p a (suc n) = rw (kept-list p (suc a) n)

pub list_length : (p : ℕ → Bool) (a n : ℕ) → length (list_in p a n) ≡ count_in p a n
list_length p a n = ap length (sym (kept-list p a n)) ∙ keep-length p a n

-- ---- parts

pub list-split : (p : ℕ → Bool) (a m n : ℕ) → list_in p a (m + n) ≡ list_in p a m ++ list_in p (a + m) n
unfolding list_in
list-split p a zero n =
    let none : 0 + n ≡ n = omega arith in
    let here : a + 0 ≡ a = omega arith in
    rw (none, here)
list-split p a (suc m) n =
    let one : suc m + n ≡ suc (m + n) = omega arith in
    let there : a + suc m ≡ suc a + m = omega arith in
    rw (one, there, list-split p (suc a) m n) (go (p a))
  where
    go : (b : Bool) → (if b then a ∷ (list_in p (suc a) m ++ list_in p (suc a + m) n) else (list_in p (suc a) m ++ list_in p (suc a + m) n))
        ≡ ((if b then a ∷ list_in p (suc a) m else list_in p (suc a) m) ++ list_in p (suc a + m) n)
    go true = refl
    go false = refl

pub list_same : (p q : ℕ → Bool) (a n : ℕ) → ((j : ℕ) → a ≤ j → j < a + n → p j ≡ q j) → list_in p a n ≡ list_in q a n
unfolding list_in
list_same p q a zero h = refl
list_same p q a (suc n) h =
    rw (h a (omega arith) (omega arith), list_same p q (suc a) n (λ j low high. h j (omega arith) (omega arith)))

pub list-nothing : (p : ℕ → Bool) (a n : ℕ) → ((j : ℕ) → a ≤ j → j < a + n → p j ≡ false) → list_in p a n ≡ []
unfolding list_in
list-nothing p a zero h = refl
list-nothing p a (suc n) h =
    rw (h a (omega arith) (omega arith)) (list-nothing p (suc a) n (λ j low high. h j (omega arith) (omega arith)))

pub list-first : (p : ℕ → Bool) (a n : ℕ) → p a ≡ true → list_in p a (suc n) ≡ a ∷ list_in p (suc a) n
unfolding list_in
list-first p a n e = rw e

pub list-empty : (p : ℕ → Bool) (a : ℕ) → list_in p a 0 ≡ []
unfolding list_in
list-empty p a = refl

-- up to a second, and from there on
pub list-parts : (p : ℕ → Bool) (from at to : ℕ) → from ≤ at → at ≤ to → list_in p from (to - from) ≡ list_in p from (at - from) ++ list_in p at (to - at)
list-parts p from at to low order =
    let parts : to - from ≡ (at - from) + (to - at) = omega arith in
    let there : from + (at - from) ≡ at = omega arith in
    ap (list_in p from) parts
    ∙ (list-split p from (at - from) (to - at) ∙ ap (λ (k : ℕ). list_in p from (at - from) ++ list_in p k (to - at)) there)

pub length-parts : (p : ℕ → Bool) (from at to : ℕ) → from ≤ at → at ≤ to
    → length (list_in p from (to - from)) ≡ length (list_in p from (at - from)) + length (list_in p at (to - at))
length-parts p from at to low order = ap length (list-parts p from at to low order) ∙ length-append (list_in p from (at - from)) (list_in p at (to - at))

pub list-most : (p : ℕ → Bool) (a n : ℕ) → length (list_in p a n) ≤ n
list-most p a n = omega (arith, list_length p a n, count_most p a n)

-- each is before the end
pub list-below : (p : ℕ → Bool) (a n k : ℕ) → k < length (list_in p a n) → get_or (list_in p a n) k 0 < a + n
unfolding list_in
list-below p a zero k h = absurd (omega arith)
list-below p a (suc n) k h = go (λ j. list-below p (suc a) n j) (p a) k h
  where
    go : ((j : ℕ) → j < length (list_in p (suc a) n) → get_or (list_in p (suc a) n) j 0 < suc a + n) → (b : Bool) (k : ℕ)
        → k < length (if b then a ∷ list_in p (suc a) n else list_in p (suc a) n) → get_or (if b then a ∷ list_in p (suc a) n else list_in p (suc a) n) k 0 < a + suc n
    go rest true zero h = omega arith
    go rest true (suc k) h = let later : get_or (list_in p (suc a) n) k 0 < suc a + n = rest k (omega arith) in omega arith
    go rest false k h = let later : get_or (list_in p (suc a) n) k 0 < suc a + n = rest k h in omega arith

-- ---- by what is next

module _ (p : ℕ → Bool) (a to r : ℕ) (f : Next p a to r) where
  pub list_over : to ≤ r → list_in p a (to - a) ≡ []
  list_over h = list-nothing p a (to - a) (λ j below above. f.none j below (omega arith))

module _ (p : ℕ → Bool) (from at to x : ℕ) (low : from ≤ at) (f : Next p at to x) where
  -- the list up to the next one, and with it
  pub list-snoc : x < to → list_in p from (x + 1 - from) ≡ list_in p from (at - from) ++ (x ∷ [])
  list-snoc h =
      let least = f.low in
      let parts : x + 1 - at ≡ (x - at) + 1 = omega arith in
      let here : at + (x - at) ≡ x = omega arith in
      let last : list_in p at (x + 1 - at) ≡ x ∷ [] =
      ap (list_in p at) parts
      ∙ (list-split p at (x - at) 1
      ∙ (ap (λ (l : List ℕ). l ++ list_in p (at + (x - at)) 1) (list-nothing p at (x - at) (λ j below above. f.none j below (omega arith)))
      ∙ (ap (λ (k : ℕ). list_in p k 1) here ∙ (list-first p x 0 (f.passes h) ∙ ap (λ (l : List ℕ). x ∷ l) (list-empty p (suc x)))))) in
      list-parts p from at (x + 1) low (omega arith) ∙ ap (λ (l : List ℕ). list_in p from (at - from) ++ l) last

  -- none is left
  pub list-end : to ≤ x → at ≤ to → list_in p from (to - from) ≡ list_in p from (at - from)
  list-end h order =
      list-parts p from at to low order
      ∙ (ap (λ (l : List ℕ). list_in p from (at - from) ++ l) (list_over p at to x f h) ∙ append-nil (list_in p from (at - from)))

-- ---- the ids of an event, of what the code keeps of it

module _ (e : Event) (from to : ℕ) (order : from ≤ to) (limit : ℕ) (l : Loaded) (s : Stands e limit l) (within : to ≤ 86400 * limit) where
  pub ids-loaded : ids e from to ≡ list_in (is_in l) from (to - from)
  unfolding ids
  ids-loaded =
      kept-list (in_set e) from (to - from)
      ∙ list_same (in_set e) (is_in l) from (to - from) (λ j low high. sym (in-set e limit l s j (omega arith)))
