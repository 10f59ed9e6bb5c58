-- An `until` that was read without a fault is a date-time of the years 1601 to 9999.
use mathlib.Core.Option.{Option, none, some}
use mathlib.Core.Path.{◌≡◌, refl}
use native.Mathlib.Omega.{arith}
use Rattle.json_tree.specs.Tree.{Json}
use Rattle.event.specs.Properties.{read_until}
use Rattle.event.specs.Reading.{maybe}
use Rattle.property.proofs.Ranges.{until-range}
use Rattle.rule_text.specs.Inner.Bounds.{Given, TimeIn}

pub until-given : (o : Option Json) → (maybe read_until o).fault ≡ 0 → Given TimeIn (maybe read_until o).value
unfolding maybe
until-given none e = refl
until-given (some v) e = let w = until-range v e in (omega (arith, w.from), omega (arith, w.to))
