-- `sheet_reader::records::all_good` meets its contract: all pairs of neighbours, and then the last record.
use Rattle.std.proofs.Common.{◌≡◌, ◌-◌, ◌∙◌, true, false, refl, sym, ap, rules, arith}
use borrow.Author.Tests.{eq-eqb}
use Rattle.std.proofs.lemmas.Iterator.{cases_from_all, YieldsList-from_range}
use Rattle.signed.proofs.Parts.{true-false}
use Rattle.sheet.proofs.RunLaws.{every-none}
use Rattle.sheet_reader.specs.Inner.Good.{sound_at}
use Rattle.sheet_reader.proofs.EveryLaws.{every-answer}
use Rattle.sheet_reader.proofs.GoodLaws.{pair_at, good-last, good-none}
use Rattle.sheet_reader.proofs.records.all_good.Goals as goal

pub returns-then-n-eq0 : goal.returns-then-n-eq0
returns-then-n-eq0 c = eq-eqb _ _ c.if-n-eq0.true ∙ sym (good-none _ _ _ c.if-n-eq0.true)

pub returns-else-n-eq0 : goal.returns-else-n-eq0
returns-else-n-eq0 c =
    let p = pair_at c.args.most c.args.s.now in
    let e = every-answer p (c.args.n - 1) _
    (cases_from_all _ _ _ (λ k. p k ≡ true) (λ k. p k ≡ false) c.all.ensures.ran
    (YieldsList-from_range 0 c.saturating_sub-last.result (c.args.n - 1) refl (omega (arith, c.saturating_sub-last.ensures)))
    (λ x q k. search rules) (λ x q k. search rules)) in
    rw (good-last c.args.most c.args.s.now c.args.n c.if-n-eq0.false, ← e, c.if-all.true)
    (c.sound.ensures ∙ ap (sound_at c.args.most c.args.s.now) c.saturating_sub-last.ensures)

pub returns-else-all : goal.returns-else-all
returns-else-all c =
    let p = pair_at c.args.most c.args.s.now in
    let e = every-answer p (c.args.n - 1) _
    (cases_from_all _ _ _ (λ k. p k ≡ true) (λ k. p k ≡ false) c.all.ensures.ran
    (YieldsList-from_range 0 c.saturating_sub-last.result (c.args.n - 1) refl (omega (arith, c.saturating_sub-last.ensures)))
    (λ x q k. search rules) (λ x q k. search rules)) in
    let some : c.args.n ≡ 0 → ⊥ = λ z. true-false (every-none p 0 (c.args.n - 1) (omega arith) ∙ sym e ∙ c.if-all.false) in
    rw (good-last c.args.most c.args.s.now c.args.n some, ← e, c.if-all.false)
