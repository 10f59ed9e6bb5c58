-- `rule_text::numbers::signed_up_to` meets its contract.
use Rattle.std.specs.Prelude.{◌<◌, ◌≤◌}
use native.Mathlib.Omega.{arith}
use Rattle.rule_text.proofs.IntegerLaws.{signed-at}
use Rattle.rule_text.proofs.ReadLaws.{reads-by}
use Rattle.signed.proofs.Parts.{back}
use borrow.Author.Tests.{le-leb, lt-leb}
use Rattle.rule_text.proofs.numbers.signed_up_to.Goals as goal

pub returns-then-n : goal.returns-then-n
returns-then-n c =
    let most : c.in-Some.n.size ≤ c.args.most = omega (arith, c.from.ensures) in
    reads-by (λ l. signed-at _ l _ _) (rw (← c.integer.ensures, c.in-Some.is, back c.difference.result c.difference.type_inv, c.difference.ensures, le-leb _ _ c.if-n-ge1.true, le-leb _ _ most, c.if-n.true))

pub returns-else-n : goal.returns-else-n
returns-else-n c =
    let most : c.in-Some.n.size ≤ c.args.most = omega (arith, c.from.ensures) in
    reads-by (λ l. signed-at _ l _ _) (rw (← c.integer.ensures, c.in-Some.is, le-leb _ _ c.if-n-ge1.true, le-leb _ _ most, c.if-n.false, ← c.difference-else-n.ensures, back c.difference-else-n.result c.difference-else-n.type_inv))

pub returns-in-Some-2 : goal.returns-in-Some-2
returns-in-Some-2 c =
    let most : c.args.most < c.in-Some.n.size = omega (arith, c.from.ensures) in
    reads-by (λ l. signed-at _ l _ _) (rw (← c.integer.ensures, c.in-Some.is, le-leb _ _ c.if-n-ge1.true, lt-leb _ _ most))

pub returns-in-Some-2-2 : goal.returns-in-Some-2-2
returns-in-Some-2-2 c = reads-by (λ l. signed-at _ l _ _) (rw (← c.integer.ensures, c.in-Some.is, lt-leb _ _ c.if-n-ge1.false))

pub returns-in-None : goal.returns-in-None
returns-in-None c = reads-by (λ l. signed-at _ l _ _) (rw (← c.integer.ensures, c.in-None.is, ← c.no_integer.ensures))
