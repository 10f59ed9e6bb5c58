-- `entries::gather` meets its contract: each turn does one of the stores that are left.
use Rattle.std.proofs.Common.{◌≡◌, length, arith, sym, ap, ◌∙◌}
use lib.Seq.{length-take-le, sets}
use lib.ListN.{take}
use mathlib.Core.List.{List, map}
use lib.IntN.{ℤ}
use Rattle.entries.specs.declared.Transition.{Transition}
use Rattle.entries.specs.Gather.{instants_of, offsets_of}
use mir.Syntax.{w64}
use mir.Facts.{to_z-of_z}
use Rattle.entries.proofs.GatherLaws.{stores, stores-next, stores-end, lesser-le, in-run, lesser-number, take-lesser}
use Rattle.entries.proofs.gather.Goals as goal

pub slice_bounds-entry-items-end : goal.slice_bounds-entry-items-end
slice_bounds-entry-items-end c =
    sym (length-take-le c.limit-n.result c.args.entries.now (rw c.limit-n.ensures (lesser-le (length c.args.entries.now) 1025)))

pub bounds-instants-i : goal.bounds-instants-i
bounds-instants-i c = in-run _ _ _ _ _ c.limit-n.ensures c.loop-i-test.true c.loop-i.auto.instants c.requires.0

pub bounds-offsets-i : goal.bounds-offsets-i
bounds-offsets-i c = in-run _ _ _ _ _ c.limit-n.ensures c.loop-i-test.true c.loop-i.auto.offsets c.requires.1

pub loop-i-preserved : goal.loop-i-preserved
loop-i-preserved c =
    let ys = take c.limit-n.result c.args.entries.now in
    record {
      instants_same = rw (to_z-of_z {w = w64} (record { sfits = c.instants-1.given }))
          (stores-next (λ e. e.instant) c.loop-i.instants c.loop-i.i ys _ c.loop-i-test.true ∙ c.loop-i.invariant.instants_same);
      offsets_same = rw (to_z-of_z {w = w64} (record { sfits = c.offsets-1.given }))
          (stores-next (λ e. e.offset) c.loop-i.offsets c.loop-i.i ys _ c.loop-i-test.true ∙ c.loop-i.invariant.offsets_same);
    }

pub returns : goal.returns
unfolding instants_of offsets_of
returns c =
    let ys = take c.limit-n.result c.args.entries.now in
    let taken = ap (λ k. take k c.args.entries.now) c.limit-n.ensures ∙ take-lesser c.args.entries.now in
    let gives = λ (f : Transition → ℤ) (l l₀ : List ℤ) (s : stores f l c.loop-i.i ys ≡ stores f l₀ 0 ys).
    sym (stores-end f l c.loop-i.i ys (omega (arith, c.loop-i-test.false))) ∙ s ∙ ap (λ xs. sets l₀ 0 (map f xs)) taken in
    record {
      number = c.limit-n.ensures ∙ lesser-number c.args.entries.now;
      instants_are = gives (λ e. e.instant) c.loop-i.instants c.args.instants.now c.loop-i.invariant.instants_same;
      offsets_are = gives (λ e. e.offset) c.loop-i.offsets c.args.offsets.now c.loop-i.invariant.offsets_same;
    }
