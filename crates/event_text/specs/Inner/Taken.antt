-- An accepted text, with the ends of its names and values and the head that was read from it.
use Rattle.std.specs.Prelude.{ℕ, List, ◌≡◌}
use Rattle.json_ends.specs.Inner.Ends.{Ends}
use Rattle.event.specs.Event.{event_fault}
use Rattle.event_text.specs.declared.Head.{Head}
use Rattle.event_text.specs.Inner.Front.{front_of, inner}
use Rattle.event_text.specs.Inner.Held.{from_head}

pub record Taken (s t : List ℕ) (h : Head) : Type 0 where
  pub ends : Ends s t
  pub head : from_head inner s h ≡ front_of s
  pub accepted : event_fault s ≡ 0
