-- The places in the list of answers that a run keeps. src/layout.rt has the same numbers.
use Rattle.std.specs.Prelude.{ℕ}

-- The row of a kind of months; its last place says whether it is written.
abbrev pub kind_size : ℕ
kind_size = 32

abbrev pub last_at : ℕ
last_at = 31

-- The rows of the 28 kinds. The week follows them.
abbrev pub kinds_size : ℕ
kinds_size = 896

abbrev pub week_size : ℕ
week_size = 38

-- Whether the week is written, and whether no weekday is asked for by its place.
abbrev pub ready_at : ℕ
ready_at = 958

abbrev pub plain_at : ℕ
plain_at = 959

-- The whole list.
abbrev pub answers_size : ℕ
answers_size = 960
