use Rattle.json_strict.specs.Surrogates.{hex_value, unit_at}
use Rattle.json_strict.proofs.surrogates.unit.Goals as goal

pub returns : goal.returns
unfolding hex_value unit_at
returns c = rw (
  ← c.byte.ensures.is,
  ← c.hex_value-a.ensures.is,
  ← c.byte-2.ensures.is,
  ← c.hex_value-b.ensures.is,
  ← c.byte-3.ensures.is,
  ← c.hex_value-c.ensures.is,
  ← c.byte-4.ensures.is,
  ← c.hex_value-d.ensures.is,
)
