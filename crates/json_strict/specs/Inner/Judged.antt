-- What is known of an answer that was given with a table of ends: which it is, and that the table still says nothing but
-- what holds of the text.
use Rattle.std.specs.Prelude.{ℕ, List, ◌≡◌}
use Rattle.json_ends.specs.Inner.Ends.{Ends}
use Rattle.json_strict.specs.Answer.{answer_of}

pub record Judged (s t : List ℕ) (r : ℕ) : Type 0 where
  pub is : r ≡ answer_of s
  pub ends : Ends s t
