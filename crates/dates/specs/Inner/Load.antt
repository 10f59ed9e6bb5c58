-- One more rule of an event, with its row of flags.
use Rattle.std.specs.Prelude.{ℕ, ◌+◌, ◌*◌, ◌/◌, ◌<◌, ◌≤◌, Bool, List, ◌≡◌, take, drop, set}
use Rattle.rule.specs.declared.Rule.{Rule}
use Rattle.rule.specs.Gives.{end_day}
use Rattle.matcher.specs.Inner.Layout.{row_size}
use Rattle.track.specs.declared.Track.{Track}
use Rattle.track.specs.Inner.Settle.{cleared, SettledBy}
use Rattle.dates.specs.declared.Tracks.{Tracks}

unfoldable pub put : Tracks → Track → Tracks
put ts t = record { list = set ts.list ts.count t; count = ts.count + 1 }

-- There is room for one more rule.
pub record Loading (count list flags start limit : ℕ) : Type 0 where
  pub room : count < list
  pub rows : row_size * (count + 1) ≤ flags
  pub few : count < 8
  pub low : 366 ≤ start / 86400
  pub high : start / 86400 < end_day
  pub within : limit ≤ end_day

-- The rule is settled on the row after those before, which are kept. What the rows after it hold is left open: they are for the rules to come.
pub record Added (excluded : Bool) (r : Rule) (start limit : ℕ) (ts : Tracks) (before after : List Bool) (next : Tracks) : Type 0 where
  pub track : Track
  pub list : next ≡ put ts track
  pub kept : take (row_size * ts.count) after ≡ take (row_size * ts.count) before
  pub settled : SettledBy excluded r start limit (cleared row_size) (take row_size (drop (row_size * ts.count) after)) track
