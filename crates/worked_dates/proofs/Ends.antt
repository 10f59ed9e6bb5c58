-- All worked ends.
use mathlib.Core.Path.{refl}
use Rattle.worked_dates.specs.Inner.Written.{on, length_of, lasting, event_of, rule, row, ending}
use Rattle.worked_dates.specs.Inner.Worked.{Worked}
use Rattle.worked_dates.specs.Inner.Ends.{london, new_york_zone, lord_howe, kwajalein, jumping, kathmandu, late, floating, patched, ends}
use Rattle.worked_dates.proofs.Computed.{computed, by-computing}

pub worked-ends : Worked ends
unfolding computed on length_of lasting event_of rule row ending london new_york_zone lord_howe kwajalein jumping kathmandu late floating patched ends
worked-ends = by-computing ends refl
