-- 01, "Rules of recurrence", its first paragraph: how a rule is read.
use Rattle.std.specs.Prelude.{if◌then◌else◌, ℕ, zero, suc, Bool, true, false, ◌||◌, ◌&&◌, List, [], ◌∷◌, leb, ℤ, pos, negsuc, nat_abs}
use Rattle.std.proofs.Math.Option.{Option, none, some}
use Rattle.fault.specs.declared.Fault.{Fault}
use Rattle.fault.specs.Fault.{faults_at, all_of}
use Rattle.json_walk.specs.Strings.{same}
use Rattle.json_tree.specs.Tree.{Json, Fields, place_of}
use Rattle.rule.specs.declared.Frequency.{Frequency}
use Rattle.rule.specs.declared.Frequency.TheVariants.{Daily, Weekly, Monthly, Yearly}
use Rattle.rule.specs.Written.{NDay, RecurrenceRule}
use Rattle.keywords.specs.declared.Rate.{Rate}
use Rattle.keywords.specs.declared.Rate.TheVariants as rate
use Rattle.keywords.specs.declared.Named.{Named}
use Rattle.keywords.specs.declared.Named.TheVariants.{Number, Wrong}
use Rattle.keywords.specs.Rules.{frequency_of, weekday_of, skip_fault, rscale_fault}
use Rattle.keywords.specs.Months.{month_of}
use Rattle.json_text.specs.Ascii.{ascii}
use Rattle.event.specs.Values.{of_word, of_integer, array, object, member}
use Rattle.event.specs.Properties.{read_until}
use Rattle.event.specs.Reading.{Reading, right, wrong, optional, required, maybe, Judged, faulty, placed, entry, inside, present, unsupported, read_all, limited}

-- "`frequency` daily, weekly, monthly or yearly (hourly, minutely, secondly: 8; others: 6)"; 02, 4: "unknown word in a closed list .. 24".
abbrev pub from_rate : Rate → Reading Frequency
from_rate rate.Daily = right Daily
from_rate rate.Weekly = right Weekly
from_rate rate.Monthly = right Monthly
from_rate rate.Yearly = right Yearly
from_rate (rate.Fault n) = wrong Yearly n

unfoldable pub read_frequency : Json → Reading Frequency
read_frequency v = of_word Yearly (λ raw. from_rate (frequency_of raw)) v

-- "Each has `@type` `RecurrenceRule`", "`byDay` entries have `@type` `NDay`"; 02, 4: "(`@type` .. too) 24".
unfoldable pub read_type : List ℕ → Json → Reading Bool
read_type name v = of_word true (λ raw. if same raw name then right true else wrong true 24) v

-- "`interval` and `count` are at least 1"; 02, 4: "number out of range .. 23".
unfoldable pub at_least_one : ℤ → Reading ℕ
at_least_one (pos zero) = wrong 1 23
at_least_one (pos (suc n)) = right (suc n)
at_least_one (negsuc n) = wrong 1 23

unfoldable pub read_count : Json → Reading ℕ
read_count v = of_integer 1 at_least_one v

-- A signed number that is not 0, up to a size.
unfoldable pub signed_up_to : ℕ → ℤ → Reading ℤ
signed_up_to most z = if leb 1 (nat_abs z) && leb (nat_abs z) most then right z else wrong (pos 1) 23

unfoldable pub read_signed : ℕ → Json → Reading ℤ
read_signed most v = of_integer (pos 1) (signed_up_to most) v

-- "`day` from `mo` to `su`": 0 is Monday. A month is from 1.
abbrev pub from_named : Named → Reading ℕ
from_named (Number n) = right n
from_named (Wrong n) = wrong 0 n

unfoldable pub read_weekday : Json → Reading ℕ
read_weekday v = of_word 0 (λ raw. from_named (weekday_of raw)) v

-- "`nthOfPeriod` from -53 to 53, not 0"
unfoldable pub read_nth : Option Json → Reading (Option ℤ)
read_nth v = maybe (read_signed 53) v

-- The object stands at `at`.
unfoldable pub nday_in : ℕ → Fields → Judged NDay
nday_in at fields =
    let type = placed at (required true (read_type (ascii "NDay"))) (member (ascii "@type") fields) in
    let day = placed at (required 0 read_weekday) (member (ascii "day") fields) in
    let nth = placed at read_nth (member (ascii "nthOfPeriod") fields) in
    record {
      value = record { day = day.value; nth_of_period = nth.value };
      faults = all_of (type.faults ∷ day.faults ∷ nth.faults ∷ []);
    }

-- "`byDay` entries have `@type` `NDay`, `day` from `mo` to `su`, and `nthOfPeriod`"
unfoldable pub read_nday : Json → Judged NDay
read_nday v = inside (record { day = 0; nth_of_period = none }) (place_of v) (nday_in (place_of v)) (object v)

-- "`byMonth` `"1"` to `"12"` (one of these followed by `L`: 8; any other: 6)"; 02, 4: "(.. `byMonth` too) 24".
unfoldable pub read_month : Json → Reading ℕ
read_month v = of_word 0 (λ raw. from_named (month_of raw)) v

-- "An empty by-list answers 6", 02, 4: "empty list 25"; "64 entries in a by-list".
unfoldable pub entries_of : {A : Type 0} → (Json → Judged A) → ℕ → List Json → Judged (List A)
entries_of f at [] = faulty [] 25 at
entries_of f at (v ∷ vs) = limited 64 at (read_all f (v ∷ vs))

-- A by-list that is absent is empty.
unfoldable pub by_list : {A : Type 0} → (Json → Judged A) → Option Json → Judged (List A)
by_list f v = present [] (λ j. inside [] (place_of j) (entries_of f (place_of j)) (array j)) v

-- "an `rscale` other than `gregorian`, and `skip` forward or backward answer 8; `skip` omit is allowed."
unfoldable pub read_scale : Json → Reading Bool
read_scale v = of_word true (λ raw. wrong true (rscale_fault raw)) v

unfoldable pub read_skip : Json → Reading Bool
read_skip v = of_word true (λ raw. wrong true (skip_fault raw)) v

-- "`byYearDay`, `byWeekNo`, `byHour`, `byMinute`, `bySecond` .. answer 8"
unfoldable pub unsupported_lists : Fields → List Fault
unsupported_lists fields =
    all_of (unsupported (member (ascii "byYearDay") fields)
    ∷ unsupported (member (ascii "byWeekNo") fields)
    ∷ unsupported (member (ascii "byHour") fields)
    ∷ unsupported (member (ascii "byMinute") fields)
    ∷ unsupported (member (ascii "bySecond") fields)
    ∷ [])

-- 7: "`count` with `until`"
unfoldable pub both_ends : ℕ → Option Json → Option Json → List Fault
both_ends at none until = []
both_ends at (some c) none = []
both_ends at (some c) (some u) = faults_at 7 at

-- 7: "`nthOfPeriod` under weekly or daily"
unfoldable pub any_nth : List NDay → Bool
any_nth [] = false
any_nth (e ∷ l) = is_nth e.nth_of_period || any_nth l
  where
    is_nth : Option ℤ → Bool
    is_nth none = false
    is_nth (some z) = true

unfoldable pub nth_under : ℕ → Frequency → List NDay → List Fault
nth_under at Daily l = if any_nth l then faults_at 7 at else []
nth_under at Weekly l = if any_nth l then faults_at 7 at else []
nth_under at Monthly l = []
nth_under at Yearly l = []

-- The object stands at `at`.
unfoldable pub rule_in : ℕ → Fields → Judged RecurrenceRule
rule_in at fields =
    let type = placed at (required true (read_type (ascii "RecurrenceRule"))) (member (ascii "@type") fields) in
    let frequency = placed at (required Yearly read_frequency) (member (ascii "frequency") fields) in
    let interval = placed at (optional 1 read_count) (member (ascii "interval") fields) in
    let first = placed at (optional 0 read_weekday) (member (ascii "firstDayOfWeek") fields) in
    let days = by_list read_nday (member (ascii "byDay") fields) in
    let month_days = by_list (entry (read_signed 31)) (member (ascii "byMonthDay") fields) in
    let months = by_list (entry read_month) (member (ascii "byMonth") fields) in
    let positions = by_list (entry (read_signed 366)) (member (ascii "bySetPosition") fields) in
    let until = placed at (maybe read_until) (member (ascii "until") fields) in
    let count = placed at (maybe read_count) (member (ascii "count") fields) in
    let scale = placed at (optional true read_scale) (member (ascii "rscale") fields) in
    let skip = placed at (optional true read_skip) (member (ascii "skip") fields) in
    record {
      value = record {
        frequency = frequency.value;
        interval = interval.value;
        first_day_of_week = first.value;
        by_day = days.value;
        by_month_day = month_days.value;
        by_month = months.value;
        by_set_position = positions.value;
        until = until.value;
        count = count.value;
      };
      faults =
          all_of (type.faults ∷ frequency.faults ∷ interval.faults ∷ first.faults
          ∷ days.faults ∷ month_days.faults ∷ months.faults ∷ positions.faults
          ∷ until.faults ∷ count.faults ∷ both_ends at (member (ascii "count") fields) (member (ascii "until") fields)
          ∷ nth_under at frequency.value days.value
          ∷ scale.faults ∷ skip.faults ∷ unsupported_lists fields
          ∷ []);
    }

abbrev pub stand_in : RecurrenceRule
stand_in =
    record { frequency = Yearly; interval = 1; first_day_of_week = 0; by_day = []; by_month_day = []; by_month = []; by_set_position = []; until = none; count = none }

unfoldable pub read_rule : Json → Judged RecurrenceRule
read_rule v = inside stand_in (place_of v) (rule_in (place_of v)) (object v)

-- "`recurrenceRules` and `excludedRecurrenceRules` are arrays of rules." "an empty rule list counts as absent". 9: "over 8 rules in either list"
unfoldable pub read_rules : Json → Judged (List RecurrenceRule)
read_rules v = inside [] (place_of v) (λ vs. limited 8 (place_of v) (read_all read_rule vs)) (array v)
