-- Runs of plain bytes: chars of one byte that stand for themselves. Only the code asks for them; what a string is says `Strings`.
use Rattle.std.specs.Prelude.{if◌then◌else◌, ℕ, ◌+◌, ◌<◌, Bool, true, false, List, ◌≡◌, eqb, ltb, get_or}
use Rattle.json_text.specs.Bytes.{past}

-- %x20-21 / %x23-5B / %x5D-7F
unfoldable pub is_plain : ℕ → Bool
is_plain b =
    if eqb b 0x22 then false else
    if eqb b 0x5C then false else
    if ltb b 0x20 then false else
    ltb b 0x80

-- Plain bytes at a place end here.
unfoldable pub plain_at : List ℕ → ℕ → ℕ
plain_at s i = past is_plain s i

-- So many bytes at a place are plain.
unfoldable pub PlainRun : List ℕ → ℕ → ℕ → Type 0
PlainRun s i n = (k : ℕ) → k < n → is_plain (get_or s (i + k) 0) ≡ true
