-- The search for an offset by halving (02, request 5). `marks` gives the mark at a place; the run in question goes from `low` up to `high`,
-- which is not in it.
use Rattle.std.specs.Prelude.{if◌then◌else◌, ℕ, zero, suc, ◌+◌, ◌-◌, ◌*◌, ◌/◌, ◌≤◌, ◌≡◌, List, [], ◌∷◌, ltb, ℤ}
use Rattle.std.specs.Int.Signed.{lt_z}
use Rattle.zone.specs.declared.search.Span.{Span}
use Rattle.zone.specs.declared.search.Found.{Found}

abbrev pub middle : ℕ → ℕ → ℕ
middle low high = low + (high - low) / 2

-- What a step leaves of the run. Of the marks it is given one, m, that in the middle: where m is beyond the local time, what stands before
-- it is left, and else what stands after it. A mark's own second is after it.
unfoldable pub halve : ℤ → ℕ → ℕ → ℤ → Span
halve local low high m =
    if lt_z local m then record { low = low; high = middle low high } else record { low = middle low high + 1; high = high }

-- What is left is a part of the run, and at most half of it.
pub record AtMostHalf (low high : ℕ) (r : Span) : Type 0 where
  pub begins : low ≤ r.low
  pub order : r.low ≤ r.high
  pub ends : r.high ≤ high
  pub half : 2 * (r.high - r.low) ≤ high - low

-- "each step reads one mark and leaves at most half the run"
pub record Halved (marks : ℕ → ℤ) (local : ℤ) (low high : ℕ) (r : Span) : Type 0 where
  pub one_mark : r ≡ halve local low high (marks (middle low high))
  pub left : AtMostHalf low high r

abbrev pub ended : ℕ → Found
ended place = record { place = place; steps = 0 }

abbrev pub one_more : Found → Found
one_more f = record { place = f.place; steps = f.steps + 1 }

-- At most n steps: where the run has become empty, and how many steps were taken.
unfoldable pub search_by : ℕ → (ℕ → ℤ) → ℤ → ℕ → ℕ → Found
search_by zero marks local low high = ended low
search_by (suc n) marks local low high =
    let s = halve local low high (marks (middle low high)) in
    let more = one_more (search_by n marks local s.low s.high) in
    if ltb low high then more else ended low

-- The places whose marks such a search reads, in order.
unfoldable pub reads_by : ℕ → (ℕ → ℤ) → ℤ → ℕ → ℕ → List ℕ
reads_by zero marks local low high = []
reads_by (suc n) marks local low high =
    let s = halve local low high (marks (middle low high)) in
    let more = middle low high ∷ reads_by n marks local s.low s.high in
    if ltb low high then more else []
