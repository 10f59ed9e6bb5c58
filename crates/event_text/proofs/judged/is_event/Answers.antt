-- `event_text::judged::is_event` meets its contract.
use Rattle.std.specs.Prelude as std
use Rattle.std.specs.Prelude.{Some, None, MatchOption}
use Prim.Native.Nat.{ℕ}
use mathlib.Core.Bool.{Bool, false}
use mathlib.Core.List.{List}
use mathlib.Core.Path.{◌≡◌}
use borrow.Author.Rules.{rules}
use Rattle.json_text.specs.Ascii.{ascii}
use Rattle.json_tree.specs.Tree.{tree_at}
use Rattle.json_walk.specs.declared.Member.{Member}
use Rattle.event.specs.Values.{string, is_text, is_type}
use Rattle.property.proofs.Fields.{found_in, member-tree}
use Rattle.event_text.proofs.judged.is_event.Goals as goal

typed : (l : ℕ) (s : List ℕ) (o : std.Option Member) (b : Bool) (Says : Member → Type 0) → MatchOption o (b ≡ false) Says
    → ((m : Member) → Says m → b ≡ is_text (ascii "Event") (string (tree_at l s m.value))) → b ≡ is_type (ascii "Event") (found_in l s o)
unfolding is_type
typed l s (Some m) b Says h says = says m h
typed l s None b Says h says = h

pub returns : goal.returns
returns c = λ l. rw (member-tree l, ← c.member.ensures) (typed l _ _ _ _ c.is_some_and.ensures (λ m p. search rules))
