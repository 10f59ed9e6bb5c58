-- The ids of an event in a window, in order.
use Rattle.std.specs.Prelude.{if◌then◌else◌, ℕ, zero, suc, ◌-◌, Bool, List, [], ◌∷◌}
use Rattle.recurrence.specs.Event.{Event, in_set}

-- The date-times from x on, n of them.
unfoldable pub seconds_from : ℕ → ℕ → List ℕ
seconds_from x zero = []
seconds_from x (suc n) = x ∷ seconds_from (suc x) n

-- Those of a list that pass.
unfoldable pub keep : (ℕ → Bool) → List ℕ → List ℕ
keep p [] = []
keep p (x ∷ l) = if p x then x ∷ keep p l else keep p l

-- The date-times of the window that are in the set. 01, "Zone table and UTC": "The window is two local second counts .., the first
-- included, the second not".
unfoldable pub ids : Event → ℕ → ℕ → List ℕ
ids e from to = keep (in_set e) (seconds_from from (to - from))
