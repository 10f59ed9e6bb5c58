-- The conditions of each call stand in the order of their numbers, 20 to 26 in 6's place.
use Prim.Native.Nat.{ℕ}
use mathlib.Core.List.{List}
use native.Mathlib.Omega.{arith}
use lib.IntN.{ℤ}
use Rattle.call_definitions.specs.Utc.{ZoneTable}
use Rattle.demands.specs.Conditions.{InOrder, fault_conditions, text_conditions, call_conditions, table_conditions, words_conditions}
use Rattle.demands.specs.Weeks.{weeks_conditions}
use Rattle.demands.specs.Reading.{sheet_conditions, record_conditions}

pub text-order : (s : List ℕ) → InOrder 0 (text_conditions s)
unfolding text_conditions fault_conditions
text-order s = (omega arith, (omega arith, (omega arith, (omega arith, (omega arith, (omega arith, (omega arith, (omega arith, (omega arith, (omega arith, (omega arith, (omega arith, (omega arith, (omega arith, (omega arith, tt)))))))))))))))

pub table-order : (zones : ZoneTable) (s : List ℕ) (from to : ℤ) (buffer : List ℕ) → InOrder 0 (table_conditions zones s from to buffer)
unfolding table_conditions text_conditions fault_conditions call_conditions
table-order zones s from to buffer = (omega arith, (omega arith, (omega arith, (omega arith, (omega arith, (omega arith, (omega arith, (omega arith, (omega arith, (omega arith, (omega arith, (omega arith, (omega arith, (omega arith, (omega arith, (omega arith, (omega arith, (omega arith, (omega arith, tt)))))))))))))))))))

pub words-order : (s : List ℕ) (date : ℤ) → InOrder 0 (words_conditions s date)
unfolding words_conditions text_conditions fault_conditions
words-order s date = (omega arith, (omega arith, (omega arith, (omega arith, (omega arith, (omega arith, (omega arith, (omega arith, (omega arith, (omega arith, (omega arith, (omega arith, (omega arith, (omega arith, (omega arith, (omega arith, tt))))))))))))))))

pub weeks-order : (log : List ℤ) (sheet : List ℕ) (from to : ℤ) (room : ℕ) → InOrder 0 (weeks_conditions log sheet from to room)
unfolding weeks_conditions
weeks-order log sheet from to room = (omega arith, (omega arith, (omega arith, (omega arith, tt))))

pub read-order : (sheet : List ℕ) → InOrder 0 (sheet_conditions sheet)
unfolding sheet_conditions
read-order sheet = (omega arith, (omega arith, (omega arith, (omega arith, (omega arith, (omega arith, (omega arith, tt)))))))

pub record-order : (sheet : List ℕ) (number : ℕ) → InOrder 0 (record_conditions sheet number)
unfolding record_conditions sheet_conditions
record-order sheet number = (omega arith, (omega arith, (omega arith, (omega arith, (omega arith, (omega arith, (omega arith, (omega arith, tt))))))))
