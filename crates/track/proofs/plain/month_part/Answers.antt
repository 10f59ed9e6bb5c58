-- `track::plain::month_part` meets its contract.
use Rattle.track.proofs.PlainLaws.{month-some, part-is}
use Rattle.track.specs.Inner.Skips.{to_month_end}
use native.Mathlib.Omega.{arith}
use Rattle.track.proofs.plain.month_part.Goals as goal

pub returns : goal.returns
returns c = let p = c.requires in
    let end = c.to_month_end-end.ensures in
    let least = c.min.ensures in
    let some-days = month-some _ p.0 p.1.0 in
    record {
      is = part-is c.min.result c.args.left (to_month_end c.args.x) (omega (arith, end, least));
      more = omega (arith, end, least, some-days, p.1.1);
      within = omega (arith, end, least);
      most = omega (arith, least);
    }
