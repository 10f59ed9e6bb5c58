-- A rule that was read without a fault lies within 01's ranges.
use Rattle.std.specs.Prelude.{None}
use Rattle.fault.specs.Fault.{First}
use Prim.Native.Nat.{ℕ, zero, suc, ◌≤◌, ◌<◌}
use mathlib.Core.List.{List, [], ◌∷◌}
use mathlib.Core.Option.{Option, none, some}
use mathlib.Core.Path.{◌≡◌, refl, sym, ◌∙◌}
use native.Mathlib.Omega.{arith}
use lib.IntN.{ℤ, pos, negsuc}
use Rattle.json_tree.specs.Tree.{Json, Fields, place_of}
use Rattle.std.specs.Prelude as std
use Rattle.json_tree.specs.declared.Integer.{Integer}
use Rattle.rule.specs.declared.Rule.{Rule}
use Rattle.rule.specs.Inner.Read.{written}
use Rattle.event.specs.Values.{array, object, number, as_integer, of_integer}
use Rattle.event.specs.Reading.{Reading, Judged, or_wrong, optional, required, maybe, placed, entry, inside, present, read_all, limited}
use Rattle.event.specs.Rules.{at_least_one, read_count, read_signed, read_weekday, read_month, read_nth, nday_in, read_nday, entries_of, by_list, stand_in, rule_in, read_rule}
use Rattle.rule_text.specs.Inner.Parts.{RuleRead}
use Rattle.rule_text.specs.Inner.Bounds.{All, nil, more, Given, SizeIn, MonthIn, AtLeastOne, DayIn, Bounded}
use Rattle.rule_text.proofs.IntegerLaws.{signed-within}
use Rattle.fault.proofs.Laws.{append-none, all_none, none-fault, first-none, fault-some}
use Rattle.rule_text.proofs.RuleLaws.{weekday-below, first_below}
use Rattle.rule_text.proofs.MonthBounds.{month-in}
use Rattle.rule_text.proofs.UntilBounds.{until-given}

-- ---- lists

module _ {A : Type 0} (P : A → Type 0) (f : Json → Judged A) (each : (v : Json) → (f v).faults ≡ [] → P (f v).value) where
  all_read : (vs : List Json) → (read_all f vs).faults ≡ [] → All P (read_all f vs).value
  unfolding read_all
  all_read [] e = nil
  all_read (v ∷ vs) e = let p = append-none (f v).faults (read_all f vs).faults e in more (each v p.0) (all_read vs p.1)

  all-entries : (at : ℕ) (vs : List Json) → (entries_of f at vs).faults ≡ [] → All P (entries_of f at vs).value
  unfolding entries_of limited
  all-entries at [] e = nil
  all-entries at (v ∷ vs) e = all_read (v ∷ vs) (append-none (read_all f (v ∷ vs)).faults _ e).0

  all-array : (at : ℕ) (vs : Option (List Json)) → (inside [] at (entries_of f at) vs).faults ≡ [] → All P (inside [] at (entries_of f at) vs).value
  unfolding inside
  all-array at none e = nil
  all-array at (some vs) e = all-entries at vs e

  all_list : (o : Option Json) → (by_list f o).faults ≡ [] → All P (by_list f o).value
  unfolding by_list present
  all_list none e = nil
  all_list (some v) e = all-array (place_of v) (array v) e

-- An entry that is a single value.
entry_in : {A : Type 0} (P : A → Type 0) (f : Json → Reading A) → ((v : Json) → (f v).fault ≡ 0 → P (f v).value) → (v : Json) → (entry f v).faults ≡ [] → P (entry f v).value
unfolding entry
entry_in P f each v e = each v (none-fault _ _ e)

-- ---- counts

least-one : (z : Option ℤ) → 1 ≤ (or_wrong 1 23 at_least_one z).value
unfolding or_wrong at_least_one
least-one none = omega arith
least-one (some (pos zero)) = omega arith
least-one (some (pos (suc n))) = omega arith
least-one (some (negsuc n)) = omega arith

count-least : (v : Json) → 1 ≤ (read_count v).value
unfolding read_count of_integer or_wrong
count-least v = go (number v)
  where
    go : (n : Option (std.Option Integer)) → 1 ≤ (or_wrong 1 20 (λ (n : std.Option Integer). or_wrong 1 23 at_least_one (as_integer n)) n).value
    go none = omega arith
    go (some n) = least-one (as_integer n)

interval-least : (o : Option Json) → 1 ≤ (optional 1 read_count o).value
unfolding optional
interval-least none = omega arith
interval-least (some v) = count-least v

count-given : (o : Option Json) → Given AtLeastOne (maybe read_count o).value
unfolding maybe
count-given none = refl
count-given (some v) = count-least v

-- ---- entries of `byDay`

nth_in : (o : Option Json) → Given (SizeIn 53) (read_nth o).value
unfolding read_nth maybe
nth_in none = refl
nth_in (some v) = signed-within 53 (omega arith) v

day-in : (o : Option Json) → (required 0 read_weekday o).value < 7
unfolding required
day-in none = omega arith
day-in (some v) = weekday-below v

nday-fields : (at : ℕ) (o : Option Fields) → DayIn (inside (record { day = 0; nth_of_period = none }) at (nday_in at) o).value
unfolding inside nday_in placed
nday-fields at none = record { day = omega arith; nth = refl }
nday-fields at (some fields) = record { day = day-in _; nth = nth_in _ }

nday-in : (v : Json) → DayIn (read_nday v).value
unfolding read_nday
nday-in v = nday-fields (place_of v) (object v)

-- ---- the rule

fields-bounded : (at : ℕ) (fields : Fields) → (rule_in at fields).faults ≡ [] → Bounded (rule_in at fields).value
unfolding rule_in placed
fields-bounded at fields e =
    let lists = (all_none _ e).1.1.1.1 in
    record {
      interval = interval-least _;
      week = first_below _;
      days = all_list DayIn read_nday (λ v z. nday-in v) _ lists.0;
      dates = all_list (SizeIn 31) (entry (read_signed 31)) (entry_in (SizeIn 31) (read_signed 31) (λ v z. signed-within 31 (omega arith) v)) _ lists.1.0;
      months = all_list MonthIn (entry read_month) (entry_in MonthIn read_month month-in) _ lists.1.1.0;
      positions = all_list (SizeIn 366) (entry (read_signed 366)) (entry_in (SizeIn 366) (read_signed 366) (λ v z. signed-within 366 (omega arith) v)) _ lists.1.1.1.0;
      until = until-given _ (none-fault _ _ lists.1.1.1.1.0);
      count = count-given _;
    }

object-bounded : (at : ℕ) (o : Option Fields) → (inside stand_in at (rule_in at) o).faults ≡ [] → Bounded (inside stand_in at (rule_in at) o).value
unfolding inside
object-bounded at none e = absurd (fault-some 20 at refl e)
object-bounded at (some fields) e = fields-bounded at fields e

pub rule-bounded : (v : Json) → (read_rule v).faults ≡ [] → Bounded (read_rule v).value
unfolding read_rule
rule-bounded v e = object-bounded (place_of v) (object v) e

-- The same of the rule that was read at a place.
pub rule-within : (s : List ℕ) (i : ℕ) {r : Rule} {n : First} → RuleRead s i r n → n ≡ None → Bounded (written r)
rule-within s i h z = rw (h.value z 0) (rule-bounded _ (first-none _ (sym (h.fault 0) ∙ z)))
