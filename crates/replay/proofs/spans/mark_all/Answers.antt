-- `replay::spans::mark_all` meets its contract: the spans from here on are still to be marked.
use Prim.Native.Nat.{◌+◌, ◌-◌}
use mathlib.Core.Path.{sym, ap, ◌∙◌}
use mathlib.Core.List.{List}
use lib.IntN.{ℤ}
use Rattle.sheet.specs.Runs.{tabulate}
use Rattle.weeks.specs.Inner.Marks.{span_at, raise_all}
use Rattle.replay.proofs.SpanLaws.{raise-turn, raise-done}
use Rattle.replay.proofs.spans.mark_all.Goals as goal

pub loop-k-preserved : goal.loop-k-preserved
loop-k-preserved c =
    let l = c.loop-k in
    let f = span_at c.args.s.now c.args.b in
    ap (λ (q : List ℤ). raise_all (tabulate f (l.k + 1) (c.args.n - (l.k + 1))) q) c.mark.ensures ∙ (raise-turn f l.k c.args.n l.p c.loop-k-test.true ∙ l.invariant)

pub returns : goal.returns
returns c = let l = c.loop-k in sym (raise-done _ l.k c.args.n l.p c.loop-k-test.false) ∙ l.invariant
