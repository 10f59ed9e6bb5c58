-- `override_text::names::names_fault` meets its contract: what was found and what is left make the whole.
use mathlib.Core.Path.{◌∙◌, ap}
use Rattle.fault.specs.Fault.{lower}
use Rattle.override_text.proofs.WalkLaws.{left-start, left-next, left_end, left_out}
use Rattle.override_text.proofs.names.names_fault.Goals as goal

pub loop-init : goal.loop-init
loop-init c = left-start _ _ _ _ c.first-next.ensures

pub returns-in_default : goal.returns-in_default
returns-in_default c = left_end _ _ _ _ _ _ c.loop.invariant c.in_default.is

pub loop-preserved : goal.loop-preserved
loop-preserved c = left-next _ _ _ _ _ _
    c.loop.invariant
    c.loop-test.true _
    c.in-Some.is _
    (c.lower-found.ensures ∙ ap (lower c.loop.found) c.name_fault.ensures)
    _ c.next_member-next.ensures

pub returns : goal.returns
returns c = left_out _ _ _ _ _ _ c.loop.invariant c.loop-test.false
