-- The loop over the chunks of a window: the records before a second are written, and the next chunk stands in the room.
use Prim.Native.Nat.{ℕ, ◌-◌, ◌*◌, ◌+◌, ◌<◌, ◌≤◌}
use mathlib.Core.Bool.{Bool, true, false}
use mathlib.Core.List.{List}
use mathlib.Core.Path.{◌≡◌, refl, sym, ◌∙◌}
use native.Mathlib.Omega.{arith}
use lib.Dec.{leb}
use lib.ListN.{length}
use borrow.Author.Tests.{leb-true, leb-false}
use Rattle.sheet.specs.Records.{Row}
use Rattle.window.specs.Inner.Handed.{Span, Handed}
use Rattle.window.specs.Inner.Lists.{list_in}
use Rattle.window.proofs.HandLaws.{handed-count}
use Rattle.source.specs.Inner.Room.{HasRoom}
use Rattle.writer.proofs.WroteLaws.{WroteTo}

pub record PutAt (row : ℕ → Row) (p : ℕ → Bool) (from to : ℕ) (before : List ℕ) (second place : ℕ) (buffer room : List ℕ) (count next : ℕ) : Type 0 where
  pub size : length room ≡ 1280
  pub wrote : WroteTo row p from to 0 before second place buffer
  pub handed : Handed p second to room room count next

-- What was handed over depends on what stood in the slice only by its length.
pub handed-here : (p : ℕ → Bool) (from to : ℕ) (before after : List ℕ) (count next : ℕ) → Handed p from to before after count next
    → Handed p from to after after count next
handed-here p from to before after count next h =
    record { size = refl; few = omega (arith, h.few, h.size); low = h.low; high = h.high; ahead = h.ahead; ids = h.ids }

-- The rest of a window is one.
pub span_rest : (from to next : ℕ) → Span from to → from ≤ next → next ≤ to → Span next to
span_rest from to next w low high = record { low = omega (arith, w.low); order = high; high = w.high }

-- What `has_room` answers, of the whole window.
module _ (p : ℕ → Bool) (from to : ℕ) (before after : List ℕ) (count next : ℕ) (h : Handed p from to before after count next) (size : ℕ) (r : Bool)
    (is : HasRoom p count next to size r) where
  answered : r ≡ leb (28 * length (list_in p from (to - from)) + 12) size
  answered = is from h.low (handed-count p from to before after count next h)

  pub no_room : r ≡ false → size < 28 * length (list_in p from (to - from)) + 12
  no_room fails = leb-false _ _ (sym answered ∙ fails)

  pub room_for : r ≡ true → 28 * length (list_in p from (to - from)) + 12 ≤ size
  room_for holds = leb-true _ _ (sym answered ∙ holds)
