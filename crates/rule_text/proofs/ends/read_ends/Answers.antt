-- `rule_text::ends::read_ends` meets its contract.
use Rattle.fault.proofs.Laws.{fault-here}
use Rattle.rule_text.proofs.EndLaws.{ends-both, ends-count, ends-until, ends-never}
use Rattle.event.specs.Reading.{Reading}
use mathlib.Core.Path.{refl, ap, ◌∙◌}
use Prim.Native.Nat.{ℕ}
use Rattle.property.proofs.RowLaws.{here, missing}
use Rattle.property.specs.Inner.Vocabulary.{vocabulary, word_of}
use Rattle.json_text.specs.Ascii.{ascii}
use Rattle.rule_text.proofs.ends.read_ends.Goals as goal

pub returns-in-Some-Some : goal.returns-in-Some-Some
unfolding word_of vocabulary
returns-in-Some-Some c = ends-both _ _ _ _ (λ l. here _ (ascii "until") _ _ c.place.ensures _ c.in-Some-Some.is-0 l) (λ l. here _ (ascii "count") _ _ c.place-2.ensures _ c.in-Some-Some.is-1 l) (λ l. c.until_fault.ensures ∙ ap (λ (r : Reading ℕ). r.fault) (c.read_until.ensures l)) c.count.ensures.fault c.fault_at-x.ensures c.fault_at-y.ensures (rw (fault-here 7 _ refl) at c.join_at.ensures) c.lower.ensures

pub returns-in-None-Some : goal.returns-in-None-Some
unfolding word_of vocabulary
returns-in-None-Some c = ends-count _ _ _ (λ l. missing _ (ascii "until") _ _ c.place.ensures c.in-None-Some.is-0 l) (λ l. here _ (ascii "count") _ _ c.place-2.ensures _ c.in-None-Some.is-1 l) c.count-n.ensures.value c.count-n.ensures.fault c.fault_at-in-None-Some.ensures

pub returns-in-Some-None : goal.returns-in-Some-None
unfolding word_of vocabulary
returns-in-Some-None c = ends-until _ _ _ (λ l. here _ (ascii "until") _ _ c.place.ensures _ c.in-Some-None.is-0 l) (λ l. missing _ (ascii "count") _ _ c.place-2.ensures c.in-Some-None.is-1 l) (λ l. c.until_time.ensures ∙ ap (λ (r : Reading ℕ). r.value) (c.read_until-x.ensures l)) (λ l. c.until_fault-in-Some-None.ensures ∙ ap (λ (r : Reading ℕ). r.fault) (c.read_until-x.ensures l)) c.fault_at.ensures

pub returns-in-None-None : goal.returns-in-None-None
unfolding word_of vocabulary
returns-in-None-None c = ends-never _ _ (λ l. missing _ (ascii "until") _ _ c.place.ensures c.in-None-None.is-0 l) (λ l. missing _ (ascii "count") _ _ c.place-2.ensures c.in-None-None.is-1 l)
