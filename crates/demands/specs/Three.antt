-- Demand 3, of two calls, each about an event of its own, with the same zone table, window and buffer, or with the same date. 01: "Buffers are the
-- same when lengths and bytes at entry are, tables when name, initial offset and entries are."
use Rattle.std.specs.Prelude.{ℕ, List, [], ◌≡◌, ℤ}
use Rattle.event.specs.Event.{event_of}
use Rattle.call_definitions.specs.Utc.{ZoneTable}
use Rattle.demands.specs.One.{TableAnswered}
use Rattle.demands.specs.Two.{Listed}

-- "the same answer, the same length and the same bytes in the whole buffer"
pub record SameTable (answer answer' size size' : ℕ) (after after' : List ℕ) : Type 0 where
  pub answers : answer ≡ answer'
  pub sizes : size ≡ size'
  pub bytes : after ≡ after'

-- "They are those of demands 1 and 2."
pub record PrivateTable (zones : ZoneTable) (s : List ℕ) (from to : ℤ) (before : List ℕ) (answer size : ℕ) (after : List ℕ) : Type 0 where
  pub answered : TableAnswered zones s from to before answer size after
  pub listed : answer ≡ 0 → Listed zones (event_of s) from to before size after

-- "the answer number is the same and no words come out": the place of the text is no place, and its length is 0.
pub record SameText (answer answer' start start' size size' : ℕ) : Type 0 where
  pub answers : answer ≡ answer'
  pub no_place : (start ≡ 0) × (start' ≡ 0)
  pub no_words : (size ≡ 0) × (size' ≡ 0)

-- The same of the calls that return the part itself.
pub record SamePart (answer answer' : ℕ) (part part' : List ℕ) : Type 0 where
  pub answers : answer ≡ answer'
  pub no_words : (part ≡ []) × (part' ≡ [])
