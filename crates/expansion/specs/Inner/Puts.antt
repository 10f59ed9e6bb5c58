-- What the table of a window is made from.
use Rattle.std.specs.Prelude.{ℕ, Bool, List, ℤ, length}
use Rattle.dates.specs.Inner.Dates.{Whole}
use Rattle.window.specs.Inner.Handed.{Span}
use Rattle.writer.specs.Inner.Writes.{Writes}
use Rattle.loading.specs.declared.Kept.{Kept}

-- What is kept of the event is whole, the window is one, and the writer has all that a record needs.
pub record Puts (s t : List ℕ) (k : Kept) (rows : List Bool) (ids : List ℕ) (gone : List Bool) (places : List ℕ) (initial : ℤ) (instants offsets : List ℤ) (from to : ℕ) : Type 0 where
  pub whole : Whole k.dates (length rows) (length ids) (length gone)
  pub span : Span from to
  pub writes : Writes s t k.form ids places initial instants offsets
