-- `sheet_reader::records::all_marked` meets its contract: the library's `all` over the records.
use Rattle.std.proofs.Common.{◌≡◌, true, false, refl, rules, arith}
use Rattle.std.proofs.lemmas.Iterator.{cases_from_all, YieldsList-from_range}
use Rattle.sheet.specs.Reading.{marked_at}
use Rattle.sheet_reader.proofs.EveryLaws.{every-answer}
use Rattle.sheet_reader.proofs.records.all_marked.Goals as goal

pub returns : goal.returns
returns c =
    let p = marked_at c.args.most c.args.s.now in
    every-answer p c.args.n _
    (cases_from_all _ _ _ (λ k. p k ≡ true) (λ k. p k ≡ false) c.all.ensures.ran
    (YieldsList-from_range 0 c.args.n c.args.n refl (omega arith)) (λ x q k. search rules) (λ x q k. search rules))
