-- The rules of a list, settled.
use Rattle.std.specs.Prelude.{ℕ, ◌/◌, ◌<◌, ◌≤◌, Bool, List, map, [], ◌≡◌, length, get_or}
use Rattle.json_ends.specs.Inner.Ends.{Ends}
use Rattle.json_tree.specs.Tree.{tree_at}
use Rattle.rule.specs.Written.{RecurrenceRule}
use Rattle.rule.specs.Gives.{end_day}
use Rattle.matcher.specs.Inner.Layout.{list_size}
use Rattle.event.specs.Rules.{read_rule}
use Rattle.dates.specs.declared.Tracks.{Tracks}
use Rattle.dates.specs.Inner.Tracked.{tracks_of, Tracked}
use Rattle.dates.specs.Inner.Stands.{Settles}

-- The event starts in the profile, and no day from `limit` on is asked for.
pub record Season (start limit : ℕ) : Type 0 where
  pub low : 366 ≤ start / 86400
  pub high : start / 86400 < end_day
  pub within : limit ≤ end_day

-- What a list of rules is settled from: it was read without a fault, the season, room for eight rows, and the ends of the text's values.
pub record ListReady (Fine : Type 0) (s t : List ℕ) (start limit flags : ℕ) : Type 0 where
  pub fine : Fine
  pub season : Season start limit
  pub room : flags ≡ list_size
  pub ends : Ends s t

-- A rule stands in a list, the list in the event: 14 levels are left for it.
unfoldable pub rules_at : List ℕ → List ℕ → List RecurrenceRule
rules_at s places = map (λ v. (read_rule (tree_at 14 s v)).value) places

-- At most eight rules, each read without a fault.
pub record Faultless (s places : List ℕ) : Type 0 where
  pub few : length places ≤ 8
  pub each : (k : ℕ) → k < length places → (read_rule (tree_at 14 s (get_or places k 0))).faults ≡ []

pub record SettledRules (excluded : Bool) (start limit : ℕ) (rules : List RecurrenceRule) (ts : Tracks) (flags : List Bool) : Type 0 where
  pub settles : Settles excluded start limit rules (tracks_of ts) flags
  pub tracked : Tracked ts (length flags)
