-- `override_text::lists::fill` meets its contract: what is left to be stored makes of the slices what all would have made of them.
use Rattle.override_text.proofs.ListLaws.{Filling}
use Rattle.override_text.proofs.lists.fill.Given as goal

abbrev pub invariant-loop-k : goal.invariant-loop-k
invariant-loop-k l = Filling l.text l.at l.initial.ids l.initial.gone l.initial.places l.ids l.gone l.places l.next l.k
