-- A rule that is settled: its row, its terms and its end, as the code makes them, and what they say of its days.
use Rattle.std.specs.Prelude.{ℕ, ◌/◌, ◌<◌, ◌≤◌, Bool, false, List, ◌≡◌, length, replicate}
use Rattle.rule.specs.declared.Rule.{Rule}
use Rattle.rule.specs.Day.{day_at}
use Rattle.rule.specs.Written.{RecurrenceRule}
use Rattle.rule.specs.Inner.Read.{written}
use Rattle.rule.specs.Gives.{end_day, on_day, gives}
use Rattle.matcher.specs.Inner.Layout.{row_size}
use Rattle.matcher.specs.Inner.Marks.{mark_row}
use Rattle.matcher.specs.Inner.Rows.{Termed}
use Rattle.matcher.specs.Inner.Member.{is_first}
use Rattle.track.specs.declared.Track.{Track}
use Rattle.track.specs.Inner.Runs.{has_day}
use Rattle.track.specs.Inner.Last.{last_by}

-- n flags or hits, none of them set.
unfoldable pub cleared : ℕ → List Bool
cleared n = replicate n false

pub record Settling (row start limit : ℕ) : Type 0 where
  pub row_length : row ≡ row_size
  pub low : 366 ≤ start / 86400
  pub high : start / 86400 < end_day
  pub within : limit ≤ end_day

-- The row after, the terms and the end of the rule of an event with that start.
pub record SettledBy (excluded : Bool) (r : Rule) (start limit : ℕ) (before after : List Bool) (t : Track) : Type 0 where
  pub row : after ≡ mark_row before (written r) (day_at (start / 86400))
  pub terms : Termed (written r) (day_at (start / 86400)) t.terms
  pub last : t.last ≡ last_by excluded r.end t.terms after start limit

-- What it is for: the rule's date-times are those of the days that it has, from the start's day on and before the limit. The start's
-- own day is apart: a rule that is not excluded has it in any case.
pub record Settled (excluded : Bool) (start limit : ℕ) (r : RecurrenceRule) (row : List Bool) (t : Track) : Type 0 where
  pub size : length row ≡ row_size
  pub week : t.terms.first < 7
  pub days : (d : ℕ) → start / 86400 ≤ d → d < limit → is_first excluded (start / 86400) d ≡ false
      → gives excluded r start (on_day start d) ≡ has_day t row (start / 86400) d
