-- "A span takes in its start and not its end": what it shares with a week is an instant that lies in both.
use Rattle.std.specs.Prelude.{ℕ, true, ◌≡◌, ℤ}
use Rattle.std.specs.Int.Signed.{lt_z, le_z}
use Rattle.sheet.specs.Records.{Row}
use Rattle.weeks.specs.Weeks.{in_week}

pub record Shares (from : ℤ) (i : ℕ) (r : Row) : Type 0 where
  pub instant : ℤ
  pub in_it : in_week from i instant ≡ true
  pub not_before : le_z r.start instant ≡ true
  pub before : lt_z instant r.end ≡ true
