-- A walk over members that joins their faults: where it stands, what was found and what is left make the whole.
use Rattle.std.specs.Prelude.{None, Option, Some}
use Prim.Native.Nat.{ℕ, ◌+◌, ◌-◌, ◌<◌, ◌≤◌}
use native.Mathlib.Omega.{arith}
use Rattle.std.proofs.Math.Nat.{sub-zero}
use mathlib.Core.List.{List, [], ◌∷◌}
use mathlib.Core.Path.{◌≡◌, sym, ap, ◌∙◌}
use lib.ListN.{length}
use Rattle.fault.specs.Fault.{lower, First}
use Rattle.fault.proofs.Laws.{none-lower, lower-none, lower-assoc}
use Rattle.json_walk.specs.Walk.{first_member_at, next_member_at, members_from, members_of}
use Rattle.json_walk.specs.declared.Member.{Member}
use Rattle.json_walk.proofs.Walks.{members-turn, members-end, members-none}
use Rattle.override_text.specs.Inner.Names.{lowest}

-- One member of a walk after k others, and those after it.
pub members-next : (s : List ℕ) (k : ℕ) → k < length s → (step : Option Member) (m : Member) → step ≡ Some m → (next : Option Member) → next ≡ next_member_at s m.after
    → members_from (length s - k) s step ≡ m ∷ members_from (length s - (k + 1)) s next
members-next s k h step m e next p =
    ap (members_from (length s - k) s) e ∙ members-turn (length s) k h s m ∙ ap (λ (x : Option Member). m ∷ members_from (length s - (k + 1)) s x) (sym p)

-- No member is left: there is none, or as many were read as the text has bytes.
pub members-last : (s : List ℕ) (k : ℕ) (step : Option Member) → step ≡ None → members_from (length s - k) s step ≡ []
members-last s k step e = ap (members_from (length s - k) s) e ∙ members-end (length s - k) s

pub members-over : (s : List ℕ) (k : ℕ) → length s ≤ k → (step : Option Member) → members_from (length s - k) s step ≡ []
members-over s k h = members-none (length s - k) (omega arith) s

module _ (f : Member → First) (s : List ℕ) (at : ℕ) where
  abbrev pub Left : First → Option Member → ℕ → Type 0
  Left found step k = lower found (lowest f (members_from (length s - k) s step)) ≡ lowest f (members_of s at)

  pub left-start : (step : Option Member) → step ≡ first_member_at s at → Left None step 0
  unfolding members_of
  left-start step e = none-lower _ ∙ rw (sub-zero (length s), e)

  module _ (found : First) (step : Option Member) (k : ℕ) (w : Left found step k) where
    pub left-next : k < length s → (m : Member) → step ≡ Some m → (joined : First) → joined ≡ lower found (f m)
        → (next : Option Member) → next ≡ next_member_at s m.after → Left joined next (k + 1)
    unfolding lowest
    left-next h m e joined q next p =
        let rest : List Member = members_from (length s - (k + 1)) s next in
        ap (λ (j : First). lower j (lowest f rest)) q
        ∙ sym (lower-assoc found (f m) (lowest f rest))
        ∙ ap (λ (ms : List Member). lower found (lowest f ms)) (sym (members-next s k h step m e next p))
        ∙ w

    left-none : members_from (length s - k) s step ≡ [] → found ≡ lowest f (members_of s at)
    unfolding lowest
    left-none e = sym (lower-none found) ∙ ap (λ (ms : List Member). lower found (lowest f ms)) (sym e) ∙ w

    pub left_end : step ≡ None → found ≡ lowest f (members_of s at)
    left_end e = left-none (members-last s k step e)

    pub left_out : length s ≤ k → found ≡ lowest f (members_of s at)
    left_out h = left-none (members-over s k h step)
