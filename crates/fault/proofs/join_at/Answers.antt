-- `join_at` meets its contract.
use mathlib.Core.Path.{sym}
use Rattle.fault.specs.Fault.{faults_at, first}
use Rattle.fault.proofs.Laws.{lower-none}
use borrow.Author.Tests.{eq-eqb}
use Rattle.fault.proofs.join_at.Goals as goal

pub returns-then-number-eq0 : goal.returns-then-number-eq0
unfolding faults_at first
returns-then-number-eq0 c = rw (eq-eqb _ _ c.if-number-eq0.true) (sym (lower-none _))
