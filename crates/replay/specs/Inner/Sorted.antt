-- What the places hold once they are filled, and their tallies.
use Rattle.std.specs.Prelude.{ℕ, List, ◌≡◌, ℤ, pos}
use Rattle.sheet.specs.Runs.{tabulate}
use Rattle.weeks.specs.Weeks.{count}
use Rattle.weeks.specs.Inner.Marks.{span_at, raise_all, sweep}
use Rattle.weeks.specs.Inner.Places.{upload_all, in_class}

-- From zeros: the ends of the spans of n records, the sweep, the uploads. There are `room` places; b is `up` of the range's start.
unfoldable pub filled : List ℤ → List ℕ → ℕ → ℕ → ℕ → List ℤ
filled log sheet n b room = upload_all b log (sweep 0 0 (raise_all (tabulate (span_at sheet b) 0 n) (tabulate (λ i. pos 0) 0 room)))

pub record Sorted (log : List ℤ) (sheet : List ℕ) (n b room : ℕ) (p : List ℤ) (reported shut missing : ℕ) : Type 0 where
  pub places : p ≡ filled log sheet n b room
  pub reported_is : reported ≡ count (in_class 0) (filled log sheet n b room)
  pub shut_is : shut ≡ count (in_class 1) (filled log sheet n b room)
  pub missing_is : missing ≡ count (in_class 2) (filled log sheet n b room)
