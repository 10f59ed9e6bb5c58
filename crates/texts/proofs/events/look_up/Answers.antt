-- `texts::events::look_up` meets its contract.
use Rattle.texts.proofs.LookLaws.{early-shown, late-shown, date-shown}
use Rattle.texts.proofs.events.look_up.Goals as goal
use Rattle.texts.proofs.events.look_up.Goals.{then-x-lt-FIRST-via-then-x-lt-FIRST, then-x-lt-FIRST-via-else-x-lt-FIRST+then-x-ge-END}

pub returns-then-x-lt-FIRST : goal.returns-then-x-lt-FIRST
returns-then-x-lt-FIRST c =
    elim c.then-x-lt-FIRST.branch [
      | then-x-lt-FIRST-via-then-x-lt-FIRST w ↦ early-shown _ _ c.args.head c.requires c.args.title _ c.ranges.date _ c.since_1600-x.ensures w.if-x-lt-FIRST.true
      | then-x-lt-FIRST-via-else-x-lt-FIRST+then-x-ge-END w ↦ late-shown _ _ c.args.head c.requires c.args.title _ c.ranges.date _ c.since_1600-x.ensures w.if-x-ge-END.true
    ]

pub returns : goal.returns
returns c = date-shown _ _ c.args.head c.requires c.args.title _ c.ranges.date _ c.since_1600-x.ensures c.if-x-lt-FIRST.false _ c.look_up_at.ensures
