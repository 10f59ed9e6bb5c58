-- `digits::two` meets its contract: a byte is below 256, so no sum on the way is large.
use native.Mathlib.Omega.{arith}
use Rattle.digits.specs.Digits.{two_at}
use Rattle.digits.proofs.two.Goals as goal

pub returns : goal.returns
unfolding two_at
returns c = record {
  is = rw (
    ← c.byte.ensures.is,
    ← c.digit-a.ensures,
    ← c.byte-2.ensures.is,
    ← c.digit-b.ensures,
  );
  small = omega arith;
}
