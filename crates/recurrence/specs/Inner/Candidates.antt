-- The ids of a window in a form that is computed: kept from candidates that end where nothing can follow. proofs/Candidates says that
-- these are `ids`.
use Rattle.std.specs.Prelude.{if◌then◌else◌, ℕ, zero, suc, ◌-◌, ◌/◌, Bool, false, not, ◌&&◌, ◌||◌, List, [], ◌∷◌, map, eqb, leb, ltb}
use Rattle.std.proofs.Math.Option.{Option}
use Rattle.rule.specs.Written.{RecurrenceRule}
use Rattle.rule.specs.Lists.{within, not_after}
use Rattle.rule.specs.Gives.{end_day, on_day, falls}
use Rattle.recurrence.specs.Event.{Event, in_set}
use Rattle.recurrence.specs.Ids.{keep}

-- ---- lists in order

-- x is put in its place, once
unfoldable pub insert : ℕ → List ℕ → List ℕ
insert x [] = x ∷ []
insert x (y ∷ l) =
    let later = y ∷ insert x l in
    if ltb x y then x ∷ y ∷ l else if eqb x y then y ∷ l else later

unfoldable pub insert_all : List ℕ → List ℕ → List ℕ
insert_all [] l = l
insert_all (x ∷ xs) l = insert x (insert_all xs l)

-- ---- candidates: every date-time of the set below `to` is among them, and where nothing can follow the list ends

-- The days from d on, of n, that pass; it ends at the first day that is past the end, and where the count is used up.
unfoldable pub days_that : (ℕ → Bool) → (ℕ → Bool) → Option ℕ → ℕ → ℕ → ℕ → List ℕ
days_that p past count zero d seen = []
days_that p past count (suc n) d seen =
    let found = d ∷ days_that p past count n (suc d) (suc seen) in
    let other = days_that p past count n (suc d) seen in
    let more = if p d then found else other in
    if past d then [] else if within seen count then more else []

-- The day lies past the window, or past a rule's `until`.
unfoldable pub is_past : RecurrenceRule → ℕ → ℕ → ℕ → Bool
is_past r start to d = leb to (on_day start d) || not (not_after (on_day start d) r.until)

unfoldable pub rule_candidates : ℕ → ℕ → RecurrenceRule → List ℕ
rule_candidates start to r =
    map (on_day start)
    (days_that (falls false r start) (is_past r start to) r.count (end_day - start / 86400) (start / 86400) 0)

unfoldable pub all_candidates : ℕ → ℕ → List RecurrenceRule → List ℕ
all_candidates start to [] = start ∷ []
all_candidates start to (r ∷ rs) = insert_all (rule_candidates start to r) (all_candidates start to rs)

unfoldable pub candidates : Event → ℕ → List ℕ
candidates e to = insert_all (map (λ o. o.id) e.overrides) (all_candidates e.start to e.rules)

-- ---- those of the window and the set

unfoldable pub in_window : ℕ → ℕ → ℕ → Bool
in_window from to x = leb from x && ltb x to

unfoldable pub ids_by_candidates : Event → ℕ → ℕ → List ℕ
ids_by_candidates e from to = keep (λ x. in_window from to x && in_set e x) (candidates e to)
