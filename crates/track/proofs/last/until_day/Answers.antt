-- `track::last::until_day` meets its contract.
use native.Mathlib.Omega.{arith}
use mathlib.Core.Path.{◌∙◌}
use Rattle.track.proofs.LastLaws.{until-some, until-none}
use Rattle.track.proofs.last.until_day.Goals as goal

pub returns-in-Some : goal.returns-in-Some
returns-in-Some c = c.min.ensures ∙ until-some _ _ _ c.in-Some.ensures.0 c.in-Some.ensures.1

pub returns-in-None : goal.returns-in-None
returns-in-None c = until-none _ _ (omega (arith, c.in-None.ensures))
