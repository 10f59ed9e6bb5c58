use Rattle.std.proofs.Common.{sym, ne_eqb}
use Rattle.json_walk.proofs.Laws.{same-lengths, bytes-ahead}
use Rattle.json_walk.specs.Strings.{raw_at}
use Rattle.json_walk.proofs.strings.same_raw.Goals as goal

pub returns-then-n-m : goal.returns-then-n-m
unfolding raw_at
returns-then-n-m c = rw (
  ← c.inside-n.ensures,
  ← c.inside-m.ensures,
  ← c.if-n-m.true,
  bytes-ahead _ _ c.args.a,
  bytes-ahead _ _ c.args.b,
  ← c.step.ensures,
  ← c.step-then-n-m.ensures,
)
    c.same_bytes.ensures

pub returns-else-n-m : goal.returns-else-n-m
unfolding raw_at
returns-else-n-m c = rw (ne_eqb _ _ c.if-n-m.false, ← c.inside-n.ensures, ← c.inside-m.ensures) (sym (same-lengths _ _ c.if-n-m.false _ _ _))
