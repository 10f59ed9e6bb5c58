-- `override_text::names::alone` meets its contract.
use Rattle.override_text.proofs.NameLaws.{turned, alone-two, alone-none, alone-short}
use mathlib.Core.Path.{◌∙◌}
use Rattle.override_text.proofs.names.alone.Goals as goal

pub returns-then-text-lt2 : goal.returns-then-text-lt2
returns-then-text-lt2 c = alone-short _ _ c.if-text-lt2.true

pub returns-in_default : goal.returns-in_default
returns-in_default c = alone-none _ _ _ c.first.ensures c.in_default.is

pub returns : goal.returns
returns c = turned _ _ c.is_none.ensures ∙ alone-two _ _ _ c.first.ensures c.if-text-lt2.false _ c.in-Some.is _ c.next_member.ensures
