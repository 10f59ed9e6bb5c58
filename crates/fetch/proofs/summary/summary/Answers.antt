-- `fetch::summary::summary` meets its contract: refused, or two numbers of the trailer.
use mathlib.Core.Path.{sym, ◌∙◌}
use native.Mathlib.Omega.{arith}
use Rattle.sheet.proofs.Accepted.{rows_before}
use Rattle.sheet.proofs.FetchLaws.{summary-refused, summary-read}
use Rattle.fetch.proofs.summary.summary.Goals as goal

pub returns-then-fault-ne0 : goal.returns-then-fault-ne0
returns-then-fault-ne0 c = summary-refused _ _ c.judge-fault.ensures c.if-fault-ne0.true

pub version-requires : goal.version-requires
version-requires c = omega (arith, rows_before _ (sym c.judge-fault.ensures ∙ c.if-fault-ne0.false))

pub count-requires : goal.count-requires
count-requires c = omega (arith, rows_before _ (sym c.judge-fault.ensures ∙ c.if-fault-ne0.false))

pub returns : goal.returns
returns c = summary-read _ (sym c.judge-fault.ensures ∙ c.if-fault-ne0.false) _ _ c.version.ensures c.count.ensures
