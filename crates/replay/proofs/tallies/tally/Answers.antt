-- `replay::tallies::tally` meets its contract: what is counted, and what is to come, is the whole.
use Rattle.std.specs.Prelude.{if◌then◌else◌}
use Rattle.std.proofs.Common.{rules, arith, ◌≡◌, get_or, pos}
use mir.Syntax.{w64}
use mir.Val.{SFits}
use Rattle.signed.proofs.Parts.{passed}
use Rattle.weeks.specs.Inner.Places.{in_class}
use Rattle.replay.specs.Inner.Numbers.{class_number}
use Rattle.replay.proofs.TallyLaws.{count_turn, count-done, one-most}
use Rattle.replay.proofs.tallies.tally.Goals as goal

pub loop-z-preserved : goal.loop-z-preserved
loop-z-preserved c =
    let l = c.loop-z in
    let test = in_class (class_number c.args.class) in
    let z = get_or c.args.p.now l.z-index (pos 0) in
    let f : SFits w64 z = search rules in
    let one : c.one_if_same-n.result ≡ (if test z then 1 else 0) = passed (λ y. if test y then 1 else 0) f c.one_if_same-n.ensures in
    let turn = count_turn test c.args.p.now l.z-index c.loop-z-test.true in
    (omega (arith, one, one-most (test z), l.invariant.0), omega (arith, one, turn, l.invariant.1))

pub returns : goal.returns
returns c = let l = c.loop-z in omega (arith, count-done (in_class (class_number c.args.class)) c.args.p.now l.z-index c.loop-z-test.false, l.invariant.1)
