-- `record::occurrences::put_occurrence` meets its contract: what the calls give is the record.
use Rattle.record.proofs.OccurrenceLaws.{start-converts, end-needs, row_is}
use borrow.Author.Rules.{rules}
use Rattle.record.proofs.occurrences.put_occurrence.Goals as goal

pub to_utc-start-requires : goal.to_utc-start-requires
to_utc-start-requires c = let o = c.offset_of-offset in
    let l = c.since_1970-local in
    start-converts _ c.args.instants.now c.args.offsets.now c.ranges.initial c.requires.valid _ c.args.times c.requires.small
    _ l.type_inv l.ensures _ o.type_inv o.ensures

pub end_of-end-requires : goal.end_of-end-requires
end_of-end-requires c = let o = c.offset_of-offset in
    let l = c.since_1970-local in (
      end-needs _ c.args.instants.now c.args.offsets.now c.ranges.initial c.requires.valid _ c.args.times c.requires.small
          _ l.type_inv l.ensures _ o.type_inv o.ensures,
      search rules,
    )

pub returns : goal.returns
returns c = let i = c.since_1970 in
    let m = c.marks-m in
    let e = c.end_of-end in
    let u = c.to_utc-start in
    let o = c.offset_of-offset in
    let l = c.since_1970-local in
    row_is _ c.args.instants.now c.args.offsets.now c.ranges.initial c.requires.valid _ c.args.times c.requires.small
    _ l.type_inv l.ensures _ o.type_inv o.ensures _ u.type_inv u.ensures _ e.type_inv e.ensures _ m.ensures _ i.type_inv i.ensures
    _ _ _ c.put_record.ensures
