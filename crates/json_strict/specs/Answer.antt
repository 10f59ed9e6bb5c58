-- The answer of a text: 0, or the lowest of 1 to 4 that applies.
use Rattle.std.specs.Prelude.{if◌then◌else◌, ℕ, List, ltb, length, Result, Ok, Err}
use Rattle.json_text.specs.declared.SyntaxError.{SyntaxError}
use Rattle.json_text.specs.declared.SyntaxError.TheVariants.{Malformed, TooDeep}
use Rattle.json_value.specs.Values.{text_at}
use Rattle.json_tree.specs.Tree.{text_tree}
use Rattle.json_tree.specs.Faults.{faulty}
use Rattle.json_strict.specs.Surrogates.{pairs_at}

-- A text longer than this many bytes answers 1.
abbrev pub limit : ℕ
limit = 65536

-- A JSON text whose escaped surrogates have their partners, or not: 4 two equal member names in one object, or a
-- backslash in any member name; 3 an escaped surrogate without its partner.
unfoldable pub paired_answer : List ℕ → Result ℕ SyntaxError → ℕ
paired_answer s (Ok i) = if faulty (text_tree s) then 4 else 0
paired_answer s (Err e) = 3

-- What reading the grammar gave: 2 a beginning of the text, itself the beginning of a JSON text, opens a 17th level;
-- 3 no JSON text.
unfoldable pub read_answer : List ℕ → Result ℕ SyntaxError → ℕ
read_answer s (Ok i) = paired_answer s (pairs_at (length s) s 0)
read_answer s (Err Malformed) = 3
read_answer s (Err TooDeep) = 2

-- 1 longer than 65,536 bytes
unfoldable pub answer_of : List ℕ → ℕ
answer_of s = if ltb limit (length s) then 1 else read_answer s (text_at s)
