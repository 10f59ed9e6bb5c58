-- `replay::uploads::upload_all` meets its contract: the uploads from here on are still to be counted, and no place holds more than those before.
use mathlib.Core.Path.{◌≡◌}
use lib.ListN.{drop}
use Rattle.weeks.specs.Inner.Places.{upload_all, Below}
use Rattle.replay.proofs.uploads.upload_all.Given as goal

abbrev pub invariant-loop-t : goal.invariant-loop-t
invariant-loop-t l = Below l.t-index l.p × (upload_all l.b (drop l.t-index l.log) l.p ≡ upload_all l.b l.log l.initial.p)
