-- `matcher::marks::mark_days` meets its contract: what is marked from here on is what is marked from the start on.
use Prim.Native.Nat.{◌+◌}
use borrow.Author.Rules.{rules}
use lib.ListN.{length, length-append}
use mathlib.Core.List.{◌∷◌, [], ◌++◌}
use mathlib.Core.Path.{◌≡◌}
use native.Mathlib.Omega.{arith}
use lib.IntN.{pos}
use Rattle.signed.proofs.Parts.{passed}
use Rattle.rule.specs.Inner.Read.{nth_from}
use Rattle.matcher.specs.Inner.Marks.{mark_nth}
use Rattle.std.proofs.lemmas.Slice.Zip.{zip_turn, zip_end}
use Rattle.matcher.proofs.MarkLaws.{days-goes-on, days-ends}
use Rattle.matcher.proofs.marks.mark_days.Goals as goal

pub loop-weekday-preserved : goal.loop-weekday-preserved
loop-weekday-preserved c =
    let turn = zip_turn c.args.weekdays.now c.args.nths.now c.loop-weekday.yielded c.into_iter-weekday-iterator.result c.loop-weekday.weekday-iterator c.next.new.self c.next.result (search rules) (search rules) c.loop-weekday.yielded_by (c.in-Some.field-0-0, c.in-Some.field-0-1) c.in-Some.is c.next.ensures.steps in
    let more : length (c.loop-weekday.yielded ++ (c.in-Some.field-0-0, c.in-Some.field-0-1) ∷ []) ≡ length c.loop-weekday.yielded + 1 = length-append _ _ in
    rw more (days-goes-on _ _ _ _ _ _ c.loop-weekday.invariant turn.0 c.requires.1
    (rw (← turn.2 0, ← turn.3 (pos 0)) (passed (λ z. mark_nth c.loop-weekday.flags c.in-Some.field-0-0.now (nth_from z)) (search rules) c.mark_nth.ensures)))

pub returns : goal.returns
returns c =
    let end = zip_end c.args.weekdays.now c.args.nths.now c.loop-weekday.yielded c.into_iter-weekday-iterator.result c.loop-weekday.weekday-iterator c.next.new.self c.next.result (search rules) (search rules) c.loop-weekday.yielded_by c.in-None.is c.next.ensures.steps in
    days-ends _ _ _ _ _ c.loop-weekday.invariant (omega (arith, end, c.requires.1))
