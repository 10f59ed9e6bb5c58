-- `property::vocabulary::number` meets its contract.
use Rattle.json_value.specs.Values.{array_of, object_of}
use Rattle.json_walk.specs.Strings.{raw_at}
use Rattle.property.specs.Inner.Vocabulary.{numbered}
use Rattle.property.proofs.vocabulary.number.Goals as goal

pub returns-then-raw_is : goal.returns-then-raw_is
unfolding array_of numbered object_of raw_at
returns-then-raw_is c = rw (
  ← c.raw_is.ensures,
  c.if-raw_is.true,
)

pub returns : goal.returns
unfolding array_of numbered object_of raw_at
returns c = rw (
  ← c.raw_is.ensures,
  c.if-raw_is.false,
)
