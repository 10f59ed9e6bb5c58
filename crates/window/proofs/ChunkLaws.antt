-- Where a chunk of days ends.
use Prim.Native.Nat.{ℕ, suc, ◌+◌, ◌*◌, ◌/◌, ◌<◌, ◌≤◌}
use mathlib.Core.Path.{◌≡◌, sym, subst}
use native.Mathlib.Omega.{arith}
use lib.Dec.{ltb}
use borrow.Author.Tests.{ltb-true, ltb-false}
use Rattle.rule.specs.Gives.{end_day}
use Rattle.rule.proofs.Bools.{by}
use Rattle.window.specs.Inner.Next.{lower, Stretch}
use Rattle.window.specs.Inner.Chunks.{chunk_end}

pub record Lower (a b r : ℕ) : Type 0 where
  pub left : r ≤ a
  pub right : r ≤ b
  pub full : (c : ℕ) → c ≤ a → c ≤ b → c ≤ r

pub lower-is : (a b : ℕ) → Lower a b (lower a b)
unfolding lower
lower-is a b =
    by (ltb b a)
    (λ e.
    let less = ltb-true b a e in
    rw e (record { left = omega arith; right = omega arith; full = λ c h k. k }))
    (λ e.
    let more = ltb-false b a e in
    rw e (record { left = omega arith; right = omega arith; full = λ c h k. h }))

-- ---- a chunk of k days: where it ends

module _ (at to k : ℕ) (some-days : 0 < k) (end : ℕ) (is-end : end ≡ chunk_end at to k) where
  end-lower : Lower to (86400 * (at / 86400 + k)) end
  unfolding chunk_end
  end-lower = subst (Lower to (86400 * (at / 86400 + k))) (sym is-end) (lower-is to (86400 * (at / 86400 + k)))

  pub end_before : end ≤ to
  end_before = end-lower.left

  pub end_later : at < to → at < end
  end_later more = end-lower.full (suc at) more (omega arith)

  pub end-stretch : at < to → at / 86400 + k ≤ end_day → Stretch (at / 86400) k at end
  end-stretch more within =
      let later = end_later more in
      let most = end-lower.right in
      record { low = omega arith; order = omega arith; high = most; days = within }
