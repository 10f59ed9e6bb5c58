-- `rule_text::days::read_nday` meets its contract.
use Rattle.fault.proofs.Laws.{fault-here}
use Rattle.rule_text.proofs.DayLaws.{nday-read, nday-wrong, number-from}
use Rattle.rule_text.specs.Inner.Lists.{nth_number}
use Prim.Native.Nat.{ℕ}
use Rattle.event.specs.Rules.{nday_in}
use Rattle.event.specs.Reading.{Reading, placed}
use Rattle.fault.specs.Fault.{lower}
use Rattle.fault.proofs.Laws.{first-all}
use Rattle.property.specs.Inner.Vocabulary.{vocabulary, word_of}
use Rattle.signed.proofs.Parts.{back}
use borrow.Author.Tests.{eq-eqb, ne_eqb}
use mathlib.Core.Path.{refl, ap, sym, ◌∙◌}
use Rattle.property.proofs.RowLaws.{zeros}
use borrow.Author.Rules.{rules}
use Rattle.rule_text.proofs.days.read_nday.Goals as goal

pub returns-then-byte-ne123 : goal.returns-then-byte-ne123
returns-then-byte-ne123 c = rw (c.fault_at.ensures, fault-here 20 _ refl) (nday-wrong c.args.text.now c.args.at (rw (← c.byte.ensures.is) (ne_eqb _ _ c.if-byte-ne123.true)))

pub fill-requires : goal.fill-requires
fill-requires c = (c.requires, (zeros 3, search rules))

pub returns : goal.returns
unfolding nday_in placed word_of vocabulary
returns c = nday-read c.args.text.now c.args.at (rw (← c.byte.ensures.is) (eq-eqb _ _ c.if-byte-ne123.false))
    (record {
      day = λ l. c.number_of.ensures ∙ ap (λ (r : Reading ℕ). r.value) (c.day_in-day.ensures l);
      nth = λ l. rw (back c.nth_in-nth.result.value c.struct_told-1.given.0.1) (sym (number-from _) ∙ ap nth_number (c.nth_in-nth.ensures.value l));
      fault = λ l. rw (← (c.day_in-day.ensures l), ← c.fault_of.ensures, ← (c.nth_in-nth.ensures.fault l), ← (c.type_in-kind.ensures l))
          (c.join_in.ensures l ∙ ap (lower _) (c.join_in-others.ensures l ∙ ap (lower _) (c.fault_in-place.ensures l)) ∙ sym (first-all _));
    })
