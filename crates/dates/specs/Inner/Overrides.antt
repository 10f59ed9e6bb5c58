-- The overrides of an event: their date-times and, beside each, whether its patch is `excluded` true.
use Rattle.std.specs.Prelude.{if◌then◌else◌, ℕ, Bool, true, false, ◌&&◌, ◌||◌, List, [], ◌∷◌, eqb}
use Rattle.rule.specs.Gives.{on_day}

-- Only those that are excluded, or all of them.
unfoldable pub counts : Bool → Bool → Bool
counts only gone = if only then gone else true

-- Some override that counts names x.
unfoldable pub is_named : Bool → List ℕ → List Bool → ℕ → Bool
is_named only [] gone x = false
is_named only (i ∷ ids) [] x = false
is_named only (i ∷ ids) (g ∷ gone) x = (counts only g && eqb i x) || is_named only ids gone x

-- The set has x by an override: one names it and none excludes it.
unfoldable pub is_kept : List ℕ → List Bool → ℕ → Bool
is_kept ids gone x = if is_named true ids gone x then false else is_named false ids gone x

-- x, if it counts, is the day d at the start's time of day.
unfoldable pub is_date : Bool → ℕ → ℕ → ℕ → Bool
is_date counted start x d = counted && eqb x (on_day start d)

unfoldable pub names_day : Bool → List ℕ → List Bool → ℕ → ℕ → Bool
names_day only ids gone start d = is_named only ids gone (on_day start d)
