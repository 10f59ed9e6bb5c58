-- `dates::marks::mark_tracks` meets its contract.
use Rattle.std.proofs.Common.{refl}
use Rattle.dates.proofs.TrackLaws.{marking, row_is, each-goes-on, each-ends}
use Rattle.dates.proofs.marks.mark_tracks.Goals as goal

pub mark_run-requires : goal.mark_run-requires
mark_run-requires c = marking c.args.tracks _ c.requires.0 _ _ _ _ _ c.loop-i-test.true c.requires.1 c.loop-i.invariant.size

pub loop-i-preserved : goal.loop-i-preserved
loop-i-preserved c = each-goes-on _ _ _ _ _ _ _ _ _ _ _ _ c.loop-i.invariant c.loop-i-test.true refl (row_is c.args.flags.now c.loop-i.i) c.mark_run.ensures

pub returns : goal.returns
returns c = each-ends _ _ _ _ _ _ _ _ c.loop-i.invariant c.loop-i-test.false
