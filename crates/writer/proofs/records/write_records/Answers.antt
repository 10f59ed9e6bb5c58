-- `writer::records::write_records` meets its contract: each turn writes the record of one id and goes on after it.
use mathlib.Core.Path.{ap, ◌∙◌}
use lib.Seq.{sets}
use mir.Facts.{to_z-of_z}
use Rattle.override_text.specs.Inner.Meaning.{details_in}
use Rattle.writer.specs.Inner.Details.{details_by}
use Rattle.writer.proofs.RecordsLaws.{row-found, chunk-one, chunk-ends}
use borrow.Author.Rules.{rules}
use Rattle.writer.proofs.records.write_records.Goals as goal

pub loop-x-preserved : goal.loop-x-preserved
loop-x-preserved c = let t = c.times_at-t in
    let i = c.loop-x in
    let details = details_by c.args.text.now (details_in c.args.text.now c.args.form.own) c.args.ids.now c.args.places.now in (
      search rules,
      chunk-one _ _ _ _ _ _ _ i.invariant.1 c.loop-x-test.true _
          (c.put_occurrence.ensures ∙ ap (sets _ _) (row-found _ _ c.args.instants.now c.args.offsets.now details _ _ t.ensures)),
    )

pub returns : goal.returns
returns c = rw (to_z-of_z c.ranges.initial) at (chunk-ends _ _ _ _ _ _ _ c.loop-x.invariant.1 c.loop-x-test.false)
