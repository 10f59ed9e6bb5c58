-- `replay::spans::mark` meets its contract: the span is that of the record's two instants.
use Rattle.signed.proofs.Parts.{back}
use Rattle.weeks.specs.Inner.Marks.{span_of, span_at}
use Rattle.sheet.specs.Records.{row_at}
use Rattle.replay.proofs.spans.mark.Goals as goal

pub returns : goal.returns
unfolding span_at span_of row_at
returns c = let gx = c.start_at in
    let gy = c.end_at in
    rw (
      c.raise.ensures,
      c.first_of.ensures.0,
      c.after_of.ensures.0,
      c.up-x.ensures,
      c.up-y.ensures,
      back gx.result gx.type_inv,
      back gy.result gy.type_inv,
      gx.ensures,
      gy.ensures,
    )
