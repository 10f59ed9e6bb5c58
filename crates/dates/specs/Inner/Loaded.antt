-- The set of an event over what the code keeps of it: settled rules with their flags, and the overrides.
use Rattle.std.specs.Prelude.{if◌then◌else◌, ℕ, ◌/◌, ◌%◌, Bool, true, false, List, eqb}
use Rattle.rule.specs.Gives.{on_day}
use Rattle.track.specs.declared.Track.{Track}
use Rattle.dates.specs.declared.Tracks.{Tracks}
use Rattle.dates.specs.Inner.Tracked.{some_has, tracks_of}
use Rattle.dates.specs.Inner.Overrides.{is_named}

pub record Loaded : Type 0 where
  pub start : ℕ
  pub rules : List Track
  pub rule_flags : List Bool
  pub excluded : List Track
  pub excluded_flags : List Bool
  pub ids : List ℕ
  pub gone : List Bool

abbrev pub loaded : ℕ → Tracks → List Bool → Tracks → List Bool → List ℕ → List Bool → Loaded
loaded start rules rule_flags excluded excluded_flags ids gone =
    record {
      start = start;
      rules = tracks_of rules;
      rule_flags = rule_flags;
      excluded = tracks_of excluded;
      excluded_flags = excluded_flags;
      ids = ids;
      gone = gone;
    }

-- The day d at the start's time of day, by the rules alone: no excluded rule has it, and it is the start's or a rule has it.
unfoldable pub by_rules : Loaded → ℕ → Bool
by_rules l d =
    let begin = l.start / 86400 in
    let ruled = if eqb d begin then true else some_has l.rules l.rule_flags begin d in
    if some_has l.excluded l.excluded_flags begin d then false else ruled

-- The date-time x is in the set.
unfoldable pub is_in : Loaded → ℕ → Bool
is_in l x =
    let ruled = if eqb (x % 86400) (l.start % 86400) then by_rules l (x / 86400) else false in
    let other = if is_named false l.ids l.gone x then true else ruled in
    if is_named true l.ids l.gone x then false else other

unfoldable pub is_on : Loaded → ℕ → Bool
is_on l d = is_in l (on_day l.start d)
