-- Laws of the faults of names: one level.
use Rattle.std.specs.Prelude.{if◌then◌else◌}
use Rattle.std.proofs.Common.{◌≡◌, ℕ, zero, suc, ◌-◌, false, eqb, List, refl, sub-one}
use Rattle.json_text.specs.Bytes.{byte}
use Rattle.json_names.specs.Inner.Names.{fault_at, object_fault, any_element}
use Rattle.json_walk.specs.Walk.{elements_of}

-- A level is left: an object or an array opens it.
pub fault-step : (l : ℕ) → (l ≡ 0 → ⊥) → (s : List ℕ) (i : ℕ)
    → fault_at l s i ≡
    (if eqb (byte s i) 0x7B then object_fault (λ v. fault_at (l - 1) s v) s i else
    if eqb (byte s i) 0x5B then any_element (λ v. fault_at (l - 1) s v) (elements_of s i) else
    false)
unfolding fault_at
fault-step zero h s i = absurd (h refl)
fault-step (suc l) h s i = rw sub-one

pub fault-none : (l : ℕ) → l ≡ 0 → (s : List ℕ) (i : ℕ) → fault_at l s i ≡ false
unfolding fault_at
fault-none l e s i = rw e
