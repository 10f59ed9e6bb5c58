-- The table of a window as bytes, and what a call leaves of it in a buffer that was lent.
use Rattle.std.specs.Prelude.{if◌then◌else◌, ℕ, ◌-◌, Bool, List, map, ltb, length}
use Rattle.sheet.specs.Records.{Row}
use Rattle.sheet.specs.Writing.{sheet_of}
use Rattle.call_definitions.specs.Bytes.{written_version}
use Rattle.call_definitions.specs.Answer.{Outcome, outcome_by}
use Rattle.window.specs.Inner.Lists.{list_in}

-- The sheet with the rows of the seconds of a window that pass.
unfoldable pub table_by : (ℕ → Row) → (ℕ → Bool) → ℕ → ℕ → List ℕ
table_by row p from to = sheet_of written_version (map row (list_in p from (to - from)))

-- 13 "the sheet is longer than the lent buffer"; else it fills the first bytes.
unfoldable pub fitted : List ℕ → List ℕ → Outcome
fitted table buffer = outcome_by (if ltb (length buffer) (length table) then 13 else 0) table buffer
