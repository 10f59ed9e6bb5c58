-- `track::ahead::falls_plain` meets its contract.
use mathlib.Core.Path.{◌∙◌}
use Rattle.track.proofs.LastLaws.{falls-by}
use Rattle.track.proofs.ahead.falls_plain.Goals as goal

pub returns : goal.returns
returns c = let a = c.args in
    rw c.picks_plain-picked.ensures at c.has_day.ensures ∙ falls-by a.excluded a.end a.terms a.flags.now a.start c.args.x.number
