-- Laws of walks over members and elements: one turn of a loop, and its end.
use Rattle.std.proofs.Common.{Option, Some, None}
use Prim.Native.Nat.{ℕ, zero, suc, ◌+◌, ◌-◌, ◌≤◌, ◌<◌}
use mathlib.Core.List.{List, [], ◌∷◌}
use mathlib.Core.Path.{◌≡◌, refl}
use native.Mathlib.Numerals.{sub-one}
use native.Mathlib.Omega.{arith}
use Rattle.json_walk.specs.Walk.{members_from, next_member_at, elements_from, next_element_at}
use Rattle.json_walk.specs.declared.Member.{Member}
use Rattle.json_walk.specs.declared.Element.{Element}

pub members-one : (n : ℕ) → 0 < n → (s : List ℕ) (m : Member) → members_from n s (Some m) ≡ m ∷ members_from (n - 1) s (next_member_at s m.after)
unfolding members_from
members-one zero h s m = absurd (omega arith)
members-one (suc n) h s m = rw sub-one

pub members-end : (n : ℕ) (s : List ℕ) → members_from n s None ≡ []
unfolding members_from
members-end zero s = refl
members-end (suc n) s = refl

pub members-none : (n : ℕ) → n ≤ 0 → (s : List ℕ) (step : Option Member) → members_from n s step ≡ []
unfolding members_from
members-none zero h s step = refl
members-none (suc n) h s step = absurd (omega arith)

-- The same in a loop that counts up to n: a turn of it after k turns, and its end.
less-one : (n k : ℕ) → n - k - 1 ≡ n - (k + 1)
less-one n k = omega arith

pub members-turn : (n k : ℕ) → k < n → (s : List ℕ) (m : Member) → members_from (n - k) s (Some m) ≡ m ∷ members_from (n - (k + 1)) s (next_member_at s m.after)
members-turn n k h s m = rw (members-one (n - k) (omega arith) s m, less-one n k)

pub members-over : (n k : ℕ) → n ≤ k → (s : List ℕ) (step : Option Member) → members_from (n - k) s step ≡ []
members-over n k h = members-none (n - k) (omega arith)

pub elements-one : (n : ℕ) → 0 < n → (s : List ℕ) (e : Element) → elements_from n s (Some e) ≡ e ∷ elements_from (n - 1) s (next_element_at s e.after)
unfolding elements_from
elements-one zero h s e = absurd (omega arith)
elements-one (suc n) h s e = rw sub-one

pub elements-end : (n : ℕ) (s : List ℕ) → elements_from n s None ≡ []
unfolding elements_from
elements-end zero s = refl
elements-end (suc n) s = refl

pub elements-none : (n : ℕ) → n ≤ 0 → (s : List ℕ) (step : Option Element) → elements_from n s step ≡ []
unfolding elements_from
elements-none zero h s step = refl
elements-none (suc n) h s step = absurd (omega arith)

pub elements-turn : (n k : ℕ) → k < n → (s : List ℕ) (e : Element) → elements_from (n - k) s (Some e) ≡ e ∷ elements_from (n - (k + 1)) s (next_element_at s e.after)
elements-turn n k h s e = rw (elements-one (n - k) (omega arith) s e, less-one n k)

pub elements-over : (n k : ℕ) → n ≤ k → (s : List ℕ) (step : Option Element) → elements_from (n - k) s step ≡ []
elements-over n k h = elements-none (n - k) (omega arith)
