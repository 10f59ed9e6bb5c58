-- What is known of a reading that kept ends on the way: which it is, and that the table says nothing but what holds.
use Rattle.std.specs.Prelude.{ℕ, List, ◌≡◌, Result}
use Rattle.json_text.specs.declared.SyntaxError.{SyntaxError}
use Rattle.json_ends.specs.Inner.Ends.{Ends}

pub record Found (want : Result ℕ SyntaxError) (s t : List ℕ) (r : Result ℕ SyntaxError) : Type 0 where
  pub is : r ≡ want
  pub ends : Ends s t
