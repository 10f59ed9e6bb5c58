-- A window goes by in chunks of days.
use Rattle.std.specs.Prelude.{ℕ, ◌+◌, ◌*◌, ◌/◌}
use Rattle.window.specs.Inner.Next.{lower}

-- The second after a chunk of k days, in a window to `to`.
unfoldable pub chunk_end : ℕ → ℕ → ℕ → ℕ
chunk_end at to k = lower to (86400 * (at / 86400 + k))
