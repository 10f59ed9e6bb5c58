-- Whether a rule has a day, its `count` apart, over its terms and its row of flags.
use Rattle.std.specs.Prelude.{if◌then◌else◌, ℕ, ◌/◌, Bool, true, false, List, eqb}
use Rattle.rule.specs.declared.Day.{Day}
use Rattle.rule.specs.declared.End.{End}
use Rattle.rule.specs.Day.{day_at}
use Rattle.rule.specs.Lists.{not_after}
use Rattle.rule.specs.Gives.{on_day}
use Rattle.rule.specs.Inner.Read.{until_from}
use Rattle.matcher.specs.declared.Terms.{Terms}
use Rattle.matcher.specs.Inner.Walk.{picks_by}

unfoldable pub is_first : Bool → ℕ → ℕ → Bool
is_first excluded first d = if excluded then false else eqb d first

unfoldable pub falls_by : Bool → End → Terms → List Bool → ℕ → Day → Bool
falls_by excluded end t fl start x =
    let later = if picks_by t fl x then not_after (on_day start x.number) (until_from end) else false in
    if is_first excluded (start / 86400) x.number then true else later

unfoldable pub falls_on_by : Bool → End → Terms → List Bool → ℕ → ℕ → Bool
falls_on_by excluded end t fl start n = falls_by excluded end t fl start (day_at n)
