-- `zone::utc` meets its contract: the offset is within ±86,399, so the difference fits.
use Prim.Native.Nat.{◌≤◌}
use mathlib.Core.Path.{◌≡◌, ◌∙◌, ap}
use lib.IntN.{ℤ, nat_abs, ◌-ℤ◌}
use Rattle.zone.specs.Lookup.{offset_at}
use Rattle.zone.proofs.LookupLaws.{offset-abs}
use Rattle.zone.proofs.Machine.{passed-valid, passed-offset, difference-fits, difference-is}
use Rattle.zone.specs.Lookup.{utc_at}
use Rattle.zone.proofs.utc.Goals as goal

pub offset-requires : goal.offset-requires
offset-requires c = passed-valid _ _ _ c.ranges.initial c.requires.0

-- the offset that is taken away, as the call gives it of what it is passed
taken : (c : goal.After-offset) → c.offset.result ≡ offset_at c.args.initial c.args.instants.now c.args.offsets.now c.args.local
taken c = passed-offset _ c.args.instants.now c.args.offsets.now _ c.ranges.initial c.ranges.local _ c.offset.ensures

taken-small : (c : goal.After-offset) → nat_abs c.offset.result ≤ 86399
taken-small c = rw (taken c) (offset-abs _ c.args.instants.now c.args.offsets.now c.requires.0 _)

pub overflow_sub-result : goal.overflow_sub-result
overflow_sub-result c = difference-fits c.args.local c.offset.result c.ranges.local (record { sfits = c.offset.type_inv }) c.requires.1 (taken-small c)

pub returns : goal.returns
unfolding utc_at
returns c = difference-is c.args.local c.offset.result c.ranges.local (record { sfits = c.offset.type_inv }) c.requires.1 (taken-small c)
    ∙ ap (λ (z : ℤ). c.args.local -ℤ z) (taken c)
