-- `replay::places::fill` meets its contract: zeros, then the spans, the sweep and the uploads.
use mathlib.Core.Path.{subst, sym}
use borrow.Author.Rules.{rules}
use Rattle.weeks.specs.Inner.Places.{Below}
use Rattle.replay.specs.Inner.Sorted.{filled}
use Rattle.replay.proofs.SpanLaws.{sweep-below}
use Rattle.replay.proofs.places.fill.Goals as goal

pub upload_all-requires : goal.upload_all-requires
upload_all-requires c = subst (Below 0) (sym c.sweep.ensures) (sweep-below 0 0 _)

pub returns : goal.returns
unfolding filled
returns c = search rules
