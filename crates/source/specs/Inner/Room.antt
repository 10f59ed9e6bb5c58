-- Whether the table of a window has room in a buffer, of which the first ids are found.
use Rattle.std.specs.Prelude.{ℕ, ◌+◌, ◌-◌, ◌*◌, ◌≤◌, Bool, ◌≡◌, leb, length}
use Rattle.dates.specs.declared.Dates.{Dates}
use Rattle.dates.specs.Inner.Dates.{Whole}
use Rattle.window.specs.Inner.Lists.{list_in}
use Rattle.window.specs.Inner.Handed.{Span}

-- The ids before `next` are found, `count` of them; the rest of the window goes from there to `to`.
pub record Begun (d : Dates) (rows ids gone count next to : ℕ) : Type 0 where
  pub whole : Whole d rows ids gone
  pub rest : Span next to
  pub few : count ≤ next

-- The table has 28 bytes for each id and 12 after them. `count` is how many ids there are from any second `from` on and before `next`.
abbrev pub HasRoom : (ℕ → Bool) → ℕ → ℕ → ℕ → ℕ → Bool → Type 0
HasRoom p count next to size r =
    (from : ℕ) → from ≤ next → count ≡ length (list_in p from (next - from)) → r ≡ leb (28 * length (list_in p from (to - from)) + 12) size
