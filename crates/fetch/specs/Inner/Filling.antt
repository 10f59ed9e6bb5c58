-- Some records in four lent slices.
use Rattle.std.specs.Prelude.{ℕ, ◌+◌, ◌*◌, ◌-◌, ◌≤◌, List, ◌++◌, ◌≡◌, ℤ, take, drop}
use Rattle.sheet.specs.Runs.{tabulate}
use Rattle.sheet.specs.Records.{id_at, start_at, end_at, marks_at}

-- n records from record k on are on a sheet of some length, and each slice has room for them.
pub record Room (size k n ids starts ends marks : ℕ) : Type 0 where
  pub on_sheet : 28 * (k + n) ≤ size
  pub ids_fit : n ≤ ids
  pub starts_fit : n ≤ starts
  pub ends_fit : n ≤ ends
  pub marks_fit : n ≤ marks

-- Their numbers stand first; the elements after them are as they were.
pub record Filled (s : List ℕ) (k n : ℕ) (ids starts ends : List ℤ) (marks : List ℕ) (ids' starts' ends' : List ℤ) (marks' : List ℕ) : Type 0 where
  pub ids_are : ids' ≡ tabulate (id_at s) k n ++ drop n ids
  pub starts_are : starts' ≡ tabulate (start_at s) k n ++ drop n starts
  pub ends_are : ends' ≡ tabulate (end_at s) k n ++ drop n ends
  pub marks_are : marks' ≡ tabulate (marks_at s) k n ++ drop n marks

-- Record k and those after it are on a sheet of some length, one for each element from i to e, and each slice has these elements.
pub record Block (size k i e ids starts ends marks : ℕ) : Type 0 where
  pub order : i ≤ e
  pub on_sheet : 28 * (k + (e - i)) ≤ size
  pub ids_fit : e ≤ ids
  pub starts_fit : e ≤ starts
  pub ends_fit : e ≤ ends
  pub marks_fit : e ≤ marks

-- Their numbers stand from i to e; the elements before and after them are as they were.
pub record BlockFilled (s : List ℕ) (k i e : ℕ) (ids starts ends : List ℤ) (marks : List ℕ) (ids' starts' ends' : List ℤ) (marks' : List ℕ) : Type 0 where
  pub ids_are : ids' ≡ take i ids ++ (tabulate (id_at s) k (e - i) ++ drop e ids)
  pub starts_are : starts' ≡ take i starts ++ (tabulate (start_at s) k (e - i) ++ drop e starts)
  pub ends_are : ends' ≡ take i ends ++ (tabulate (end_at s) k (e - i) ++ drop e ends)
  pub marks_are : marks' ≡ take i marks ++ (tabulate (marks_at s) k (e - i) ++ drop e marks)
