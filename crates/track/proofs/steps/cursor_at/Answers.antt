-- `track::steps::cursor_at` meets its contract.
use Rattle.track.proofs.StepLaws.{cursor-at-day}
use Rattle.matcher.proofs.WalkLaws.{number_is, day-again}
use native.Mathlib.Omega.{arith}
use mathlib.Core.Path.{◌∙◌}
use Rattle.track.proofs.steps.cursor_at.Goals as goal

pub cursor_on-requires : goal.cursor_on-requires
cursor_on-requires c = let p = c.requires in
    let at = number_is _ _ c.day_of-x.ensures in
    (day-again _ _ c.day_of-x.ensures, record { row_length = p.row_length; week = p.week; low = omega (arith, at, p.low); high = omega (arith, at, p.high) })

pub returns : goal.returns
returns c = c.cursor_on.ensures ∙ cursor-at-day _ _ _ _ c.day_of-x.ensures
