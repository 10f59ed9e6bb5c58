-- `dates::marks::mark_tracks` meets its contract.
use Rattle.std.proofs.Common.{take}
use Rattle.dates.proofs.TrackLaws.{EachAt}
use Rattle.dates.proofs.marks.mark_tracks.Given as goal

abbrev pub invariant-loop-i : goal.invariant-loop-i
invariant-loop-i l = EachAt (take l.fn.tracks.count l.fn.tracks.list) l.flags l.value l.first l.begin l.initial.hits l.hits l.i
