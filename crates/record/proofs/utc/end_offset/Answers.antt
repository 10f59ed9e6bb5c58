-- `record::utc::end_offset` meets its contract: without days the offset at the end is that at the start.
use Rattle.std.proofs.Common.{◌∙◌}
use mir.Facts.{to_z-of_z}
use Rattle.record.proofs.UtcLaws.{no-days}
use Rattle.record.proofs.utc.end_offset.Goals as goal

pub returns-then-times-eq0 : goal.returns-then-times-eq0
returns-then-times-eq0 c = to_z-of_z c.ranges.before ∙ (c.requires.0.at_start ∙ no-days _ c.args.instants.now c.args.offsets.now c.args.times c.if-times-eq0.true)
