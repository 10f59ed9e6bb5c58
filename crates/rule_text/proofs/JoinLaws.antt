-- Faults joined, and parted again: no fault of the whole is none of a part.
use Rattle.std.specs.Prelude.{if◌then◌else◌, Some, None}
use Prim.Native.Nat.{ℕ}
use mathlib.Core.Bool.{Bool, true, false}
use mathlib.Core.List.{List, [], ◌∷◌, ◌++◌}
use mathlib.Core.Path.{◌≡◌, refl, ap, ◌∙◌}
use Rattle.fault.specs.declared.Fault.{Fault}
use Rattle.fault.specs.Fault.{faults_at, all_of, lower, first, First, a_fault}
use Rattle.fault.proofs.Laws.{lower-none, lower-zero, first-append, first_part, first-groups, fault-here}
use Rattle.rule_text.specs.Inner.Parts.{joined}

-- 9 joins where a limit is passed.
pub first-limit : (c : Bool) (at : ℕ) (l : List Fault) → first (l ++ (if c then faults_at 9 at else [])) ≡ (if c then lower (first l) (Some (a_fault 9 at)) else first l)
first-limit true at l = first-append l (faults_at 9 at) ∙ ap (lower (first l)) (fault-here 9 at refl)
first-limit false at l = first-append l [] ∙ (unfold first in lower-none (first l))

-- The faults of a rule in the order of the definition, by the parts that the code reads together.
pub rule-faults : (t f i w d m y p u c b n a k o : List Fault) → first (all_of (t ∷ f ∷ i ∷ w ∷ d ∷ m ∷ y ∷ p ∷ u ∷ c ∷ b ∷ n ∷ a ∷ k ∷ o ∷ []))
    ≡ joined (first (all_of (t ∷ f ∷ i ∷ w ∷ []))) (first d) (first m) (first y) (first p) (first (all_of (u ∷ c ∷ b ∷ []))) (first n) (first (all_of (a ∷ k ∷ o ∷ [])))
unfolding joined
rule-faults t f i w d m y p u c b n a k o =
    first-groups (t ∷ f ∷ i ∷ w ∷ []) _
    ∙ ap (lower (first (all_of (t ∷ f ∷ i ∷ w ∷ []))))
    (first_part d _ ∙ ap (lower (first d))
    (first_part m _ ∙ ap (lower (first m))
    (first_part y _ ∙ ap (lower (first y))
    (first_part p _ ∙ ap (lower (first p))
    (first-groups (u ∷ c ∷ b ∷ []) _ ∙ ap (lower (first (all_of (u ∷ c ∷ b ∷ [])))) (first_part n (a ∷ k ∷ o ∷ [])))))))

pub record NoFaults (n1 n2 n3 n4 n5 n6 : First) : Type 0 where
  pub head : n1 ≡ None
  pub days : n2 ≡ None
  pub dates : n3 ≡ None
  pub months : n4 ≡ None
  pub positions : n5 ≡ None
  pub ends : n6 ≡ None

pub no-faults : (n1 n2 n3 n4 n5 n6 n7 n8 : First) → joined n1 n2 n3 n4 n5 n6 n7 n8 ≡ None → NoFaults n1 n2 n3 n4 n5 n6
unfolding joined
no-faults n1 n2 n3 n4 n5 n6 n7 n8 e =
    let a = lower-zero n1 _ e in
    let b = lower-zero n2 _ a.1 in
    let c = lower-zero n3 _ b.1 in
    let d = lower-zero n4 _ c.1 in
    let f = lower-zero n5 _ d.1 in
    let g = lower-zero n6 _ f.1 in
    record { head = a.0; days = b.0; dates = c.0; months = d.0; positions = f.0; ends = g.0 }
