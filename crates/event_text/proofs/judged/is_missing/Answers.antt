-- `event_text::judged::is_missing` meets its contract.
use Rattle.std.proofs.Common.{Option, Some, None}
use Rattle.std.specs.Option.{is_some}
use Prim.Native.Nat.{ℕ}
use mathlib.Core.Bool.{Bool, true, false, not}
use mathlib.Core.List.{List}
use mathlib.Core.Path.{◌≡◌}
use Rattle.json_walk.specs.declared.Member.{Member}
use Rattle.event.specs.Event.{missing}
use Rattle.property.proofs.Fields.{found_in, member-tree}
use Rattle.override_text.proofs.NameLaws.{turned}
use Rattle.event_text.proofs.judged.is_missing.Goals as goal

absent : (l : ℕ) (s : List ℕ) (m : Option Member) (b : Bool) → is_some m ≡ not b → b ≡ missing (found_in l s m)
unfolding missing
absent l s (Some m) b e = turned b true e
absent l s None b e = turned b false e

pub returns : goal.returns
returns c = λ l. rw (member-tree l, ← c.member.ensures) (absent l _ _ _ c.is_none.ensures)
