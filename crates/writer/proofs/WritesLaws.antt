-- What the writer asks for, with the offset given by its bits.
use Prim.Native.Nat.{ℕ}
use mathlib.Core.List.{List}
use mathlib.Core.Path.{sym, subst}
use lib.IntN.{ℤ}
use mir.Syntax.{w64}
use mir.Val.{SFits, to_z, of_z}
use mir.Facts.{to_z-of_z}
use Rattle.writer.specs.declared.Form.{Form}
use Rattle.writer.specs.Inner.Writes.{Writes}

module _ (s t : List ℕ) (f : Form) (ids places : List ℕ) (b : ℤ) (ts ns : List ℤ) where
  pub writes_again : SFits w64 b → Writes s t f ids places b ts ns → Writes s t f ids places (to_z w64 (of_z w64 b)) ts ns
  writes_again fits w = subst (λ (z : ℤ). Writes s t f ids places z ts ns) (sym (to_z-of_z fits)) w
