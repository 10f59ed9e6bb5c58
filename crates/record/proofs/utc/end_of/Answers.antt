-- `record::utc::end_of` meets its contract: what is converted, and what is added to, is small enough.
use Rattle.record.proofs.UtcLaws.{end-converts, end_later}
use Rattle.record.proofs.utc.end_of.Goals as goal

pub to_utc-utc-requires : goal.to_utc-utc-requires
to_utc-utc-requires c = let s = c.since_1970-local in
    let n = c.local_end in
    end-converts _ c.args.instants.now c.args.offsets.now c.ranges.initial c.args.times _ c.requires.0
    _ n.ensures _ s.type_inv s.ensures _ c.end_offset-offset.type_inv c.end_offset-offset.ensures

pub later-requires : goal.later-requires
later-requires c = let s = c.since_1970-local in
    let n = c.local_end in
    end_later _ c.args.instants.now c.args.offsets.now c.ranges.initial c.args.times _ c.requires.0
    _ n.ensures _ s.type_inv s.ensures _ c.end_offset-offset.type_inv c.end_offset-offset.ensures _ c.to_utc-utc.type_inv c.to_utc-utc.ensures
