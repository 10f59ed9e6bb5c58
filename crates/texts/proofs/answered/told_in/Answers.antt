-- `texts::answered::told_in` meets its contract: 1 to 9, or what is found.
use Rattle.opening.proofs.TextLaws.{refused-fault}
use Rattle.texts.proofs.CallLaws.{refused-placed, looked-placed}
use Rattle.texts.proofs.answered.told_in.Goals as goal

pub look_up-requires : goal.look_up-requires
look_up-requires c = c.in-Ok.ensures.1

pub returns-in-Err : goal.returns-in-Err
returns-in-Err c = refused-placed _ c.args.title _ c.ranges.date _ (refused-fault _ _ _ c.in-Err.ensures.0, c.in-Err.ensures.1) _ c.refused.ensures

pub returns-in-Ok : goal.returns-in-Ok
returns-in-Ok c = let fine = c.in-Ok.ensures in
    looked-placed _ c.args.title _ c.ranges.date fine.0 c.look_up.result c.look_up.ensures _ c.told_of.ensures
