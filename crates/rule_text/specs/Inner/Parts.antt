-- The parts of a rule that are read together: its head, what ends it, its lists. l is the depth of the values of its members.
use Rattle.std.specs.Prelude.{if◌then◌else◌, ℕ, suc, ◌≤◌, Bool, true, List, [], ◌∷◌, ◌≡◌, ℤ, length, take, Some, None}
use Rattle.std.proofs.Math.Option.{Option}
use Rattle.fault.specs.declared.Fault.{Fault}
use Rattle.fault.specs.Fault.{all_of, lower, first, First, a_fault}
use Rattle.json_tree.specs.Tree.{tree_at}
use Rattle.rule.specs.declared.Frequency.{Frequency}
use Rattle.rule.specs.declared.Frequency.TheVariants.{Daily, Weekly, Monthly, Yearly}
use Rattle.rule.specs.declared.End.{End}
use Rattle.rule.specs.declared.Rule.{Rule}
use Rattle.rule.specs.Written.{NDay}
use Rattle.rule.specs.Inner.Read.{ndays, until_from, count_from, written, Sized}
use Rattle.json_text.specs.Ascii.{ascii}
use Rattle.event.specs.Properties.{read_until}
use Rattle.event.specs.Reading.{Judged, optional, required, maybe, placed}
use Rattle.event.specs.Rules.{both_ends, any_nth, read_type, read_frequency, read_count, read_weekday, read_scale, read_skip, unsupported_lists, rule_in, read_rule}
use Rattle.property.specs.Inner.From.{fields_in}
use Rattle.rule_text.specs.Inner.Members.{member_at}

module _ (l : ℕ) (s : List ℕ) (i : ℕ) where
  abbrev pub type_at : Judged Bool
  type_at = placed i (required true (read_type (ascii "RecurrenceRule"))) (member_at l s i (ascii "@type"))

  abbrev pub frequency_at : Judged Frequency
  frequency_at = placed i (required Yearly read_frequency) (member_at l s i (ascii "frequency"))

  abbrev pub interval_at : Judged ℕ
  interval_at = placed i (optional 1 read_count) (member_at l s i (ascii "interval"))

  abbrev pub first_at : Judged ℕ
  first_at = placed i (optional 0 read_weekday) (member_at l s i (ascii "firstDayOfWeek"))

  abbrev pub head_faults : List Fault
  head_faults = all_of (type_at.faults ∷ frequency_at.faults ∷ interval_at.faults ∷ first_at.faults ∷ [])

  abbrev pub until_at : Judged (Option ℕ)
  until_at = placed i (maybe read_until) (member_at l s i (ascii "until"))

  abbrev pub count_at : Judged (Option ℕ)
  count_at = placed i (maybe read_count) (member_at l s i (ascii "count"))

  abbrev pub ends_faults : List Fault
  ends_faults = all_of (until_at.faults ∷ count_at.faults ∷ both_ends i (member_at l s i (ascii "count")) (member_at l s i (ascii "until")) ∷ [])

  -- "an `rscale` other than `gregorian`, and `skip` forward or backward answer 8", and the lists that are unsupported.
  abbrev pub other_faults : List Fault
  other_faults =
      all_of ((placed i (optional true read_scale) (member_at l s i (ascii "rscale"))).faults
      ∷ (placed i (optional true read_skip) (member_at l s i (ascii "skip"))).faults
      ∷ unsupported_lists (fields_in l s i)
      ∷ [])

pub record HeadRead (s : List ℕ) (i : ℕ) (f : Frequency) (m w : ℕ) (n : First) : Type 0 where
  pub frequency : (l : ℕ) → f ≡ (frequency_at l s i).value
  pub interval : (l : ℕ) → m ≡ (interval_at l s i).value
  pub week : (l : ℕ) → w ≡ (first_at l s i).value
  pub fault : (l : ℕ) → n ≡ first (head_faults l s i)

-- `count` and `until` at once are a fault.
pub record EndsRead (s : List ℕ) (i : ℕ) (e : End) (n : First) : Type 0 where
  pub fault : (l : ℕ) → n ≡ first (ends_faults l s i)
  pub until : n ≡ None → (l : ℕ) → until_from e ≡ (until_at l s i).value
  pub count : n ≡ None → (l : ℕ) → count_from e ≡ (count_at l s i).value

-- A list that was read into an array. Where it has a fault the array does not matter.
pub record Collected {A : Type 0} (tree : ℕ → Judged (List A)) (list : List A) (m : ℕ) (n : First) : Type 0 where
  pub fault : (l : ℕ) → n ≡ first (tree l).faults
  pub value : n ≡ None → (l : ℕ) → take m list ≡ (tree l).value
  pub within : n ≡ None → m ≤ length list

pub record DaysCollected (tree : ℕ → Judged (List NDay)) (ws : List ℕ) (zs : List ℤ) (m : ℕ) (b : Bool) (n : First) : Type 0 where
  pub fault : (l : ℕ) → n ≡ first (tree l).faults
  pub any : (l : ℕ) → b ≡ any_nth (tree l).value
  pub value : n ≡ None → (l : ℕ) → ndays (take m ws) (take m zs) ≡ (tree l).value
  pub weekdays : n ≡ None → m ≤ length ws
  pub nths : n ≡ None → m ≤ length zs

-- 7: "`nthOfPeriod` under weekly or daily", at the rule, by whether some entry has one.
abbrev pub nth_fault : ℕ → Frequency → Bool → First
nth_fault at Daily b = if b then Some (a_fault 7 at) else None
nth_fault at Weekly b = if b then Some (a_fault 7 at) else None
nth_fault at Monthly b = None
nth_fault at Yearly b = None

-- Of the parts' faults that decide the one that decides of all.
unfoldable pub joined : First → First → First → First → First → First → First → First → First
joined head days dates months positions ends nth other =
    lower head (lower days (lower dates (lower months (lower positions (lower ends (lower nth other))))))

-- The rule of an object's members. Lists of objects are read, so the members are two levels deep at least.
pub record RuleIn (s : List ℕ) (i : ℕ) (rule : Rule) (n : First) : Type 0 where
  pub fault : (l : ℕ) → n ≡ first (rule_in i (fields_in (suc (suc l)) s i)).faults
  pub value : n ≡ None → (l : ℕ) → written rule ≡ (rule_in i (fields_in (suc (suc l)) s i)).value
  pub sized : n ≡ None → Sized rule

-- A rule that was read. A rule holds lists of objects, so its tree is three levels deep at least. With a fault, what the rule holds is left open:
-- no event has it.
pub record RuleRead (s : List ℕ) (i : ℕ) (rule : Rule) (n : First) : Type 0 where
  pub fault : (l : ℕ) → n ≡ first (read_rule (tree_at (suc (suc (suc l))) s i)).faults
  pub value : n ≡ None → (l : ℕ) → written rule ≡ (read_rule (tree_at (suc (suc (suc l))) s i)).value
  pub sized : n ≡ None → Sized rule
