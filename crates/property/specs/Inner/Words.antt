-- Strings by their place in a text.
use Rattle.std.specs.Prelude.{if◌then◌else◌, ℕ, List, eqb, ltb, length}
use Rattle.json_text.specs.Bytes.{byte}
use Rattle.json_text.specs.Strings.{string_at}
use Rattle.json_walk.specs.Strings.{raw_at, slashed}
use Rattle.json_tree.specs.Tree.{end_of}

-- The bytes between the quotes of the string at a place; none where there is no string.
unfoldable pub word_at : List ℕ → ℕ → List ℕ
word_at s i = raw_at s i (end_of (string_at s i))

-- What keeps a value from being a string without a backslash: 20, it is no string; 26, it has one; 0, nothing.
unfoldable pub word_fault_at : List ℕ → ℕ → ℕ
word_fault_at s i = if eqb (byte s i) 0x22 then (if slashed (word_at s i) then 26 else 0) else 20

-- 01: "`uid`: at least one byte." 26 where it has none.
unfoldable pub filled_fault_at : List ℕ → ℕ → ℕ
filled_fault_at s i = if eqb (word_fault_at s i) 0 then (if ltb 0 (length (word_at s i)) then 0 else 26) else word_fault_at s i
