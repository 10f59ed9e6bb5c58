use native.Mathlib.Omega.{arith}
use Rattle.json_strict.proofs.Free.{no_front}
use Rattle.json_strict.proofs.slashes.seen.Goals as goal

pub returns-then-differs-lacks_d-eq0 : goal.returns-then-differs-lacks_d-eq0
returns-then-differs-lacks_d-eq0 c = λ e. absurd (omega (arith, e))

pub returns : goal.returns
returns c = λ e. (e, no_front _ _ _ (λ z. omega (arith, z, c.differs.ensures.is, c.differs-2.ensures.is, c.lacks_d.ensures.is, c.if-differs-lacks_d-eq0.false)))
