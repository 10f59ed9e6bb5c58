use Rattle.json_tree.specs.Integers.{size_at}
use borrow.Author.Tests.{le-leb, lt-leb}
use Rattle.json_tree.proofs.integers.sized.Goals as goal

pub returns-then-goes_on : goal.returns-then-goes_on
unfolding size_at
returns-then-goes_on c = rw (
  ← c.digits.ensures,
  ← c.byte.ensures.is,
  ← c.goes_on.ensures,
  c.if-goes_on.true,
)

pub returns-then-v-le-LARGEST : goal.returns-then-v-le-LARGEST
unfolding size_at
returns-then-v-le-LARGEST c = rw (
  ← c.digits.ensures,
  ← c.byte.ensures.is,
  ← c.goes_on.ensures,
  c.if-goes_on.false,
  ← (c.size-v.ensures.small c.if-v-le-LARGEST.true),
  le-leb _ _ c.if-v-le-LARGEST.true,
  ← c.sign.ensures,
)

pub returns : goal.returns
unfolding size_at
returns c = rw (
  ← c.digits.ensures,
  ← c.byte.ensures.is,
  ← c.goes_on.ensures,
  c.if-goes_on.false,
  lt-leb _ _ (c.size-v.ensures.large c.if-v-le-LARGEST.false),
)
