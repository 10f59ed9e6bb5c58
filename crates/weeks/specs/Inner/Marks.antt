-- Which weeks are touched, as the code finds it, over natural numbers: `up t` is t + 2^63, and b is `up` of the range's start.
use Rattle.std.specs.Prelude.{if◌then◌else◌, ℕ, suc, ◌+◌, ◌-◌, ◌/◌, ◌^◌, List, [], ◌∷◌, ltb, leb, eqb, ℤ, pos, negsuc, get_or, set}
use Rattle.signed.specs.Parts.{pos_part, neg_part}
use Rattle.sheet.specs.Records.{Row, row_at}

-- An instant that is not below -base, as the natural number t + base.
abbrev pub above : ℕ → ℤ → ℕ
above base t = (base + pos_part t) - neg_part t

abbrev pub up : ℤ → ℕ
up t = above (2 ^ 63) t

-- ---- the weeks of a span are those from `first` on and before `after`

pub record Span : Type 0 where
  pub first : ℕ
  pub after : ℕ

abbrev pub first_of : ℕ → ℕ → ℕ
first_of b x = (x - b) / 604800

abbrev pub after_of : ℕ → ℕ → ℕ → ℕ
after_of b x y =
    if ltb x y then (y - b + 604799) / 604800
    else (if ltb x b then 0 else (x - b) / 604800 + 1)

unfoldable pub span_of : ℕ → Row → Span
span_of b r = record { first = first_of b (up r.start); after = after_of b (up r.start) (up r.end) }

-- The span of record k of a sheet.
unfoldable pub span_at : List ℕ → ℕ → ℕ → Span
span_at s b k = span_of b (row_at s k)

-- ---- each span's end goes to the place of its first week, if it is the farthest there

unfoldable pub larger : ℕ → ℕ → ℕ
larger a b = if ltb a b then b else a

unfoldable pub raise : List ℤ → Span → List ℤ
raise p s = set p s.first (pos (larger (pos_part (get_or p s.first (pos 0))) s.after))

unfoldable pub raise_all : List Span → List ℤ → List ℤ
raise_all [] p = p
raise_all (s ∷ ss) p = raise_all ss (raise p s)

-- ---- from the first week on: how far the spans that have begun reach. Week i is touched where that is past i.

unfoldable pub sweep : ℕ → ℕ → List ℤ → List ℤ
sweep r i [] = []
sweep r i (z ∷ zs) =
    (if ltb i (larger r (pos_part z)) then negsuc 0 else negsuc 1) ∷ sweep (larger r (pos_part z)) (suc i) zs

-- What the two are of a list of spans: the farthest end of those that begin in week i, and of those that begin in it or before it.
unfoldable pub peak : List Span → ℕ → ℕ
peak [] i = 0
peak (s ∷ ss) i = larger (if eqb s.first i then s.after else 0) (peak ss i)

unfoldable pub reach : List Span → ℕ → ℕ
reach [] i = 0
reach (s ∷ ss) i = larger (if leb s.first i then s.after else 0) (reach ss i)
