-- `fetch::run::fill` meets its contract: the elements of the blocks that are done have their numbers.
use Prim.Native.Nat.{ℕ, ◌+◌, ◌*◌, ◌<◌, min}
use native.Mathlib.Omega.{arith}
use mathlib.Core.Path.{◌≡◌, refl, subst}
use Rattle.sheet.specs.Runs.{tabulate}
use Rattle.fetch.specs.Inner.Filling.{Filled}
use Rattle.fetch.proofs.FillLaws.{block-filled}
use Rattle.fetch.proofs.run.fill.Goals as goal

pub loop-block-init : goal.loop-block-init
unfolding tabulate
loop-block-init c = let none : min c.args.n 0 ≡ 0 = omega arith in rw none (record { ids_are = refl; starts_are = refl; ends_are = refl; marks_are = refl })

pub loop-block-preserved : goal.loop-block-preserved
loop-block-preserved c =
    let l = c.loop-block in
    let a = c.args in
    let inside : l.block * 256 < a.n = omega (arith, c.div_ceil-block-end.ensures, c.loop-block-test.true) in
    let i : min a.n (256 * l.block) ≡ l.block * 256 = omega (arith, inside) in
    let e : l.block * 256 + c.min.result ≡ min a.n (256 * (l.block + 1)) = omega (arith, c.min.ensures, inside) in
    let before = subst (λ (j : ℕ). Filled a.sheet.now a.k j a.ids.now a.starts.now a.ends.now a.marks.now l.ids l.starts l.ends l.marks) i l.invariant in
    subst (λ (j : ℕ). Filled a.sheet.now a.k j a.ids.now a.starts.now a.ends.now a.marks.now c.fill_block.new.ids c.fill_block.new.starts c.fill_block.new.ends c.fill_block.new.marks) e
    (block-filled _ _ _ _ _ _ _ _ _ _ _ _ _ _ _ _ (omega arith) before c.fill_block.ensures)
