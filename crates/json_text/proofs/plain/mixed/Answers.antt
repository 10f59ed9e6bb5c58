use native.Mathlib.Omega.{arith}
use Rattle.json_text.proofs.Blocks.{is-plain}
use Rattle.json_text.proofs.plain.mixed.Goals as goal

pub returns-then-same-below-eq0 : goal.returns-then-same-below-eq0
returns-then-same-below-eq0 c = λ e. (
  e,
  is-plain _
      (c.same.ensures.0 (omega (arith, c.if-same-below-eq0.true)))
      (c.same-2.ensures.0 (omega (arith, c.if-same-below-eq0.true)))
      (c.below.ensures.0 (omega (arith, c.if-same-below-eq0.true)))
      (let q = c.below-2.ensures.0 (omega (arith, c.if-same-below-eq0.true)) in omega (arith, q)),
)

pub returns : goal.returns
returns c = λ e. absurd (omega (arith, e))
