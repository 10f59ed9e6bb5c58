-- `track::settle::settle` meets its contract.
use Rattle.matcher.proofs.WalkLaws.{number_is, in-calendar}
use Rattle.track.proofs.SettleLaws.{termed-begun}
use Rattle.matcher.specs.Inner.Marks.{mark_row}
use Rattle.matcher.specs.Inner.Rows.{Termed}
use Rattle.rule.specs.Inner.Read.{written}
use Rattle.rule.specs.declared.Day.{Day}
use native.Mathlib.Omega.{arith}
use mathlib.Core.Path.{◌∙◌, ap, subst}
use borrow.Author.Rules.{rules}
use Rattle.track.proofs.settle.settle.Goals as goal

pub terms_of-terms-requires : goal.terms_of-terms-requires
terms_of-terms-requires c = let p = c.requires in
    let number = number_is _ _ c.day_of-first.ensures in
    (p.0, (in-calendar _ _ c.day_of-first.ensures (omega (arith, p.1.high)), omega (arith, p.1.high, number)))

pub last_day-last-requires : goal.last_day-last-requires
last_day-last-requires c = let begun = termed-begun _ _ _ _ c.terms_of-terms.ensures c.day_of-first.ensures in
    search rules

pub returns : goal.returns
returns c = let is = c.day_of-first.ensures in
    record {
      row = c.mark_row.ensures ∙ ap (mark_row _ (written _)) is;
      terms = subst (λ (y : Day). Termed (written c.args.rule) y c.terms_of-terms.result) is c.terms_of-terms.ensures;
      last = c.last_day-last.ensures;
    }
