-- `sheet_reader::records::rising` meets its contract: the library's `all` over the pairs of neighbours.
use Rattle.std.proofs.Common.{◌≡◌, ◌-◌, true, false, refl, rules, arith}
use Rattle.std.proofs.lemmas.Iterator.{cases_from_all, YieldsList-from_range}
use Rattle.sheet.specs.Reading.{rises_at}
use Rattle.sheet_reader.proofs.EveryLaws.{every-answer}
use Rattle.sheet_reader.proofs.records.rising.Goals as goal

pub returns : goal.returns
returns c =
    let p = rises_at c.args.s.now in
    every-answer p (c.args.n - 1) _
    (cases_from_all _ _ _ (λ k. p k ≡ true) (λ k. p k ≡ false) c.all.ensures.ran
    (YieldsList-from_range 0 c.saturating_sub.result (c.args.n - 1) refl (omega (arith, c.saturating_sub.ensures))) (λ x q k. search rules) (λ x q k. search rules))
