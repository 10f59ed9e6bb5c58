-- `fetch::refusals::fetch_fault` meets its contract: the sheet is judged, and then the number.
use mathlib.Core.Path.{◌≡◌, sym, ◌∙◌}
use native.Mathlib.Omega.{arith}
use borrow.Author.Rules.{rules}
use Rattle.sheet.proofs.Accepted.{rows_before}
use Rattle.sheet.specs.Fetching.{fetch_fault}
use borrow.Author.Tests.{le-leb, lt-leb, ne_eqb}
use Rattle.fetch.proofs.refusals.fetch_fault.Goals as goal

pub count-requires : goal.count-requires
count-requires c = omega (arith, rows_before _ (sym c.judge.ensures ∙ c.in-0.is))

pub returns-in-0 : goal.returns-in-0
unfolding fetch_fault
returns-in-0 c = rw (← c.judge.ensures, c.in-0.is, ← c.count.ensures, le-leb _ _ c.if-count-number.true)

pub returns-in_default : goal.returns-in_default
unfolding fetch_fault
returns-in_default c = rw (← c.judge.ensures, c.in-0.is, ← c.count.ensures, lt-leb _ _ c.if-count-number.false)

pub returns-in_default-2 : goal.returns-in_default-2
unfolding fetch_fault
returns-in_default-2 c = let some : c.judge.result ≡ 0 → ⊥ = search rules in rw (← c.judge.ensures, ne_eqb _ _ some)
