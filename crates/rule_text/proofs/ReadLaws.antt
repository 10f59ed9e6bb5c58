-- A reader whose definition asks the same of a tree of any depth answers it.
use Prim.Native.Nat.{ℕ}
use mathlib.Core.Path.{◌≡◌, ◌∙◌, sym, ap}
use Rattle.event.specs.Reading.{Reading}
use Rattle.rule_text.specs.Inner.Reads.{Reads}

pub reads-by : {A : Type 0} {tree : ℕ → Reading A} {r : Reading A} {a : A} {n : ℕ} → ((l : ℕ) → tree l ≡ r) → r ≡ record { value = a; fault = n } → Reads tree a n
reads-by {A} e h =
    record {
      value = λ l. sym (ap (λ (r : Reading A). r.value) (e l ∙ h));
      fault = λ l. sym (ap (λ (r : Reading A). r.fault) (e l ∙ h));
    }
