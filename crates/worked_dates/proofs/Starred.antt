-- All starred cases of 01's "Worked dates".
use mathlib.Core.Path.{refl}
use Rattle.worked_dates.specs.Inner.Written.{on, length_of, lasting, event_of, rule, row, floating_row, no_zone, dated, ruled, ending, timed}
use Rattle.worked_dates.specs.Inner.Worked.{Worked}
use Rattle.worked_dates.specs.Inner.Cases.{new_york, los_angeles, melbourne, starred}
use Rattle.worked_dates.proofs.Computed.{computed, by-computing}

pub worked-dates : Worked starred
unfolding computed on length_of lasting event_of rule row floating_row no_zone dated ruled ending timed new_york los_angeles melbourne starred
worked-dates = by-computing starred refl
