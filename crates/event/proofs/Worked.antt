-- Faults of worked texts, and their places, of the definitions themselves, by computation: one list with a single statement.
use Prim.Native.Nat.{ℕ}
use Prim.Native.String.{String}
use mathlib.Core.List.{List, [], ◌∷◌, map}
use mathlib.Core.Path.{◌≡◌, refl}
use Rattle.json_text.specs.Ascii.{ascii}
use Rattle.json_text.specs.Bytes.{run, past, is_space, is_digit, space_at, digits_at}
use Rattle.json_text.specs.Numbers.{some_digits_at, int_at, frac_at, power_at, exp_at, unsigned_at, number_at}
use Rattle.json_text.specs.Strings.{is_hex, hex_at, is_escaped, escape_at, char_at, chars_at, string_at}
use Rattle.json_text.specs.Utf8.{is_tail, tails_at, second_at, multi_at}
use Rattle.json_text.specs.Words.{word_at, scalar_at}
use Rattle.json_value.specs.Values.{after_at, first_at, colon_at, name_at, elements_at, members_at, array_of, object_of, value_of, value_at, end_at, text_at}
use Rattle.json_value.specs.Inner.Groups.{array_at, object_at}
use Rattle.json_walk.specs.Strings.{bytes_at, raw_at, same, slashed}
use Rattle.json_walk.specs.Inner.Within.{ahead}
use Rattle.json_walk.specs.Walk.{member_at, first_member_at, next_member_at, members_from, members_of, element_at, first_element_at, next_element_at, elements_from, elements_of}
use Rattle.json_tree.specs.Faults.{field_named, fields_repeat, fields_slashed, fields_bad}
use Rattle.json_tree.specs.Finds.{look_up}
use Rattle.json_tree.specs.Inner.Members.{find_in}
use Rattle.json_tree.specs.Integers.{decimal, goes_on, signed, size_at, whole_at, integer_at}
use Rattle.json_tree.specs.Tree.{scalar_tree, fields_of, items_of, tree_by, tree_at, text_tree}
use Rattle.json_tree.specs.Inner.Kinds.{kind_at}
use Rattle.keywords.specs.Marks.{free_busy_of, privacy_of}
use Rattle.keywords.specs.Months.{month_written, month_of}
use Rattle.keywords.specs.Rules.{frequency_of, weekday_of, skip_fault, rscale_fault}
use Rattle.date_time.specs.Local.{is_local, fraction_fault, seconds_at, local_of}
use Rattle.date_time.specs.Parts.{date_at, is_time, is_real, second_of_day}
use Rattle.date_time.specs.Picture.{meets, follows}
use Rattle.date_time.specs.Utc.{ends_in_z, is_utc}
use Rattle.digits.specs.Digits.{two_at, four_at}
use Rattle.digits.specs.Fraction.{all_digits, non_zero, last_of, ends_in_zero, legal_fraction}
use Rattle.duration.specs.Amount.{before, amount_of}
use Rattle.duration.specs.Inner.Capped.{capped}
use Rattle.duration.specs.Length.{point_at, days_of, seconds_of, whole_of, fraction_of, length_of}
use Rattle.duration_grammar.specs.Grammar.{letter_at, unit_at, second_at as secondAt-duration-grammar, minute_at, hour_at, clock_at, time_at, day_at, week_at, cal_at, dated_at, duration_at, is_duration}
use Rattle.duration_grammar.specs.Letter.{upper}
use Rattle.fault.specs.Fault.{faults_at, all_of, is_wrong, order, decides, lower, first}
use Rattle.gregorian.specs.Days.{is_date, day_of, from_month, from_year, date_of, weekday_of as weekdayOf-gregorian}
use Rattle.gregorian.specs.Month.{length_in, start_in, month_length, month_start, month_day}
use Rattle.gregorian.specs.Year.{is_leap, year_length, leap_years, first_of_year}
use Rattle.event.specs.Event.{missing, no_event, details_in, event_in, faults_in, faults_of, is_no_event, event_first, event_fault, event_place}
use Rattle.event.specs.Overrides.{patched, patched_start, has_mark, name_fault, name_faults, alone, excluded_fault, patch_in, override_of, overrides_in, read_overrides}
use Rattle.event.specs.Properties.{filled, read_uid, read_updated, date_time, read_start, read_until, named, read_zone, read_length, read_busy, read_boolean, read_privacy, read_text}
use Rattle.event.specs.Reading.{or_wrong, optional, required, maybe, place_in, placed, entry, inside, present, unsupported, read_all, limited}
use Rattle.event.specs.Rules.{read_frequency, read_type, at_least_one, read_count, signed_up_to, read_signed, read_weekday, read_nth, nday_in, read_nday, read_month, entries_of, by_list, read_scale, read_skip, unsupported_lists, both_ends, any_nth, nth_under, rule_in, read_rule, read_rules}
use Rattle.event.specs.Values.{of_word, of_integer, list_of, member, is_text, is_type}

pub record Case : Type 0 where
  pub text : String
  pub number : ℕ
  pub place : ℕ

pub cases : List Case
cases =
    -- an event with what it must have
    record { text = "{\"@type\":\"Event\",\"uid\":\"a\",\"updated\":\"2020-01-01T00:00:00Z\",\"start\":\"2018-01-15T13:00:00\"}"; number = 0; place = 0 }
    -- no object; another type; no uid
    ∷ record { text = "[]"; number = 5; place = 0 }
    ∷ record { text = "{\"@type\":\"event\",\"uid\":\"a\",\"updated\":\"2020-01-01T00:00:00Z\",\"start\":\"2018-01-15T13:00:00\"}"; number = 5; place = 0 }
    ∷ record { text = "{\"@type\":\"Event\",\"updated\":\"2020-01-01T00:00:00Z\",\"start\":\"2018-01-15T13:00:00\"}"; number = 5; place = 0 }
    -- an empty uid
    ∷ record { text = "{\"@type\":\"Event\",\"uid\":\"\",\"updated\":\"2020-01-01T00:00:00Z\",\"start\":\"2018-01-15T13:00:00\"}"; number = 26; place = 23 }
    -- only timeZone may be null
    ∷ record { text = "{\"@type\":\"Event\",\"uid\":\"a\",\"updated\":\"2020-01-01T00:00:00Z\",\"start\":null}"; number = 20; place = 68 }
    ∷ record { text = "{\"@type\":\"Event\",\"uid\":\"a\",\"updated\":\"2020-01-01T00:00:00Z\",\"start\":\"2018-01-15T13:00:00\",\"timeZone\":null}"; number = 0; place = 0 }
    -- a backslash is 26, also in a date
    ∷ record { text = "{\"@type\":\"Event\",\"uid\":\"a\",\"updated\":\"2020-01-01T00:00:00Z\",\"start\":\"\\u0032018-01-15T13:00:00\"}"; number = 26; place = 68 }
    -- fractions
    ∷ record { text = "{\"@type\":\"Event\",\"uid\":\"a\",\"updated\":\"2020-01-01T00:00:00Z\",\"start\":\"2018-01-15T13:00:00.5\"}"; number = 8; place = 0 }
    ∷ record { text = "{\"@type\":\"Event\",\"uid\":\"a\",\"updated\":\"2020-01-01T00:00:00Z\",\"start\":\"2018-01-15T13:00:00.50\"}"; number = 21; place = 68 }
    -- durations
    ∷ record { text = "{\"@type\":\"Event\",\"uid\":\"a\",\"updated\":\"2020-01-01T00:00:00Z\",\"start\":\"2018-01-15T13:00:00\",\"duration\":\"P1W2D\"}"; number = 0; place = 0 }
    ∷ record { text = "{\"@type\":\"Event\",\"uid\":\"a\",\"updated\":\"2020-01-01T00:00:00Z\",\"start\":\"2018-01-15T13:00:00\",\"duration\":\"P\"}"; number = 22; place = 101 }
    ∷ record { text = "{\"@type\":\"Event\",\"uid\":\"a\",\"updated\":\"2020-01-01T00:00:00Z\",\"start\":\"2018-01-15T13:00:00\",\"duration\":\"P366DT1S\"}"; number = 22; place = 101 }
    -- an unsupported frequency, an unknown one, none
    ∷ record { text = "{\"@type\":\"Event\",\"uid\":\"a\",\"updated\":\"2020-01-01T00:00:00Z\",\"start\":\"2018-01-15T13:00:00\",\"recurrenceRules\":[{\"@type\":\"RecurrenceRule\",\"frequency\":\"hourly\"}]}"; number = 8; place = 0 }
    ∷ record { text = "{\"@type\":\"Event\",\"uid\":\"a\",\"updated\":\"2020-01-01T00:00:00Z\",\"start\":\"2018-01-15T13:00:00\",\"recurrenceRules\":[{\"@type\":\"RecurrenceRule\",\"frequency\":\"often\"}]}"; number = 24; place = 147 }
    ∷ record { text = "{\"@type\":\"Event\",\"uid\":\"a\",\"updated\":\"2020-01-01T00:00:00Z\",\"start\":\"2018-01-15T13:00:00\",\"recurrenceRules\":[{\"@type\":\"RecurrenceRule\"}]}"; number = 26; place = 109 }
    -- numbers
    ∷ record { text = "{\"@type\":\"Event\",\"uid\":\"a\",\"updated\":\"2020-01-01T00:00:00Z\",\"start\":\"2018-01-15T13:00:00\",\"recurrenceRules\":[{\"@type\":\"RecurrenceRule\",\"frequency\":\"daily\",\"interval\":1.5}]}"; number = 23; place = 166 }
    ∷ record { text = "{\"@type\":\"Event\",\"uid\":\"a\",\"updated\":\"2020-01-01T00:00:00Z\",\"start\":\"2018-01-15T13:00:00\",\"recurrenceRules\":[{\"@type\":\"RecurrenceRule\",\"frequency\":\"daily\",\"interval\":\"1\"}]}"; number = 20; place = 166 }
    -- an empty list; a month
    ∷ record { text = "{\"@type\":\"Event\",\"uid\":\"a\",\"updated\":\"2020-01-01T00:00:00Z\",\"start\":\"2018-01-15T13:00:00\",\"recurrenceRules\":[{\"@type\":\"RecurrenceRule\",\"frequency\":\"daily\",\"byMonthDay\":[]}]}"; number = 25; place = 168 }
    ∷ record { text = "{\"@type\":\"Event\",\"uid\":\"a\",\"updated\":\"2020-01-01T00:00:00Z\",\"start\":\"2018-01-15T13:00:00\",\"recurrenceRules\":[{\"@type\":\"RecurrenceRule\",\"frequency\":\"daily\",\"byMonth\":[\"13\"]}]}"; number = 24; place = 166 }
    -- the earliest place decides
    ∷ record { text = "{\"@type\":\"Event\",\"uid\":\"a\",\"duration\":\"P\",\"updated\":\"2020-01-01T00:00:00Z\",\"start\":\"2018-01-15T13:00:00\",\"recurrenceRules\":[{\"@type\":\"RecurrenceRule\",\"frequency\":\"daily\",\"byMonthDay\":[32],\"interval\":0}]}"; number = 22; place = 38 }
    ∷ record { text = "{\"@type\":\"Event\",\"uid\":\"a\",\"updated\":\"2020-01-01T00:00:00Z\",\"start\":\"2018-01-15T13:00:00\",\"recurrenceRules\":[{\"@type\":\"RecurrenceRule\",\"frequency\":\"daily\",\"byMonthDay\":[32],\"interval\":\"x\"}]}"; number = 23; place = 169 }
    -- count with until, and with a wrong value before it
    ∷ record { text = "{\"@type\":\"Event\",\"uid\":\"a\",\"updated\":\"2020-01-01T00:00:00Z\",\"start\":\"2018-01-15T13:00:00\",\"recurrenceRules\":[{\"@type\":\"RecurrenceRule\",\"frequency\":\"daily\",\"count\":1,\"until\":\"2020-01-01T00:00:00\"}]}"; number = 7; place = 0 }
    ∷ record { text = "{\"@type\":\"Event\",\"uid\":\"a\",\"updated\":\"2020-01-01T00:00:00Z\",\"start\":\"2018-01-15T13:00:00\",\"recurrenceRules\":[{\"@type\":\"RecurrenceRule\",\"frequency\":\"daily\",\"count\":0,\"until\":\"2020-01-01T00:00:00\"}]}"; number = 23; place = 163 }
    -- nthOfPeriod under daily
    ∷ record { text = "{\"@type\":\"Event\",\"uid\":\"a\",\"updated\":\"2020-01-01T00:00:00Z\",\"start\":\"2018-01-15T13:00:00\",\"recurrenceRules\":[{\"@type\":\"RecurrenceRule\",\"frequency\":\"daily\",\"byDay\":[{\"@type\":\"NDay\",\"day\":\"mo\",\"nthOfPeriod\":1}]}]}"; number = 7; place = 0 }
    -- nine rules; and one of them wrong
    ∷ record { text = "{\"@type\":\"Event\",\"uid\":\"a\",\"updated\":\"2020-01-01T00:00:00Z\",\"start\":\"2018-01-15T13:00:00\",\"recurrenceRules\":[{\"@type\":\"RecurrenceRule\",\"frequency\":\"daily\"},{\"@type\":\"RecurrenceRule\",\"frequency\":\"daily\"},{\"@type\":\"RecurrenceRule\",\"frequency\":\"daily\"},{\"@type\":\"RecurrenceRule\",\"frequency\":\"daily\"},{\"@type\":\"RecurrenceRule\",\"frequency\":\"daily\"},{\"@type\":\"RecurrenceRule\",\"frequency\":\"daily\"},{\"@type\":\"RecurrenceRule\",\"frequency\":\"daily\"},{\"@type\":\"RecurrenceRule\",\"frequency\":\"daily\"},{\"@type\":\"RecurrenceRule\",\"frequency\":\"daily\"}]}"; number = 9; place = 0 }
    ∷ record { text = "{\"@type\":\"Event\",\"uid\":\"a\",\"updated\":\"2020-01-01T00:00:00Z\",\"start\":\"2018-01-15T13:00:00\",\"recurrenceRules\":[{\"@type\":\"RecurrenceRule\",\"frequency\":\"daily\"},{\"@type\":\"RecurrenceRule\",\"frequency\":\"daily\"},{\"@type\":\"RecurrenceRule\",\"frequency\":\"daily\"},{\"@type\":\"RecurrenceRule\",\"frequency\":\"daily\"},{\"@type\":\"RecurrenceRule\",\"frequency\":\"daily\"},{\"@type\":\"RecurrenceRule\",\"frequency\":\"daily\"},{\"@type\":\"RecurrenceRule\",\"frequency\":\"daily\"},{\"@type\":\"RecurrenceRule\",\"frequency\":\"daily\"},1]}"; number = 20; place = 485 }
    -- overrides: fine, excluded, excluded beside another member, a pointer
    ∷ record { text = "{\"@type\":\"Event\",\"uid\":\"a\",\"updated\":\"2020-01-01T00:00:00Z\",\"start\":\"2018-01-15T13:00:00\",\"recurrenceOverrides\":{\"2018-01-16T13:00:00\":{}}}"; number = 0; place = 0 }
    ∷ record { text = "{\"@type\":\"Event\",\"uid\":\"a\",\"updated\":\"2020-01-01T00:00:00Z\",\"start\":\"2018-01-15T13:00:00\",\"recurrenceOverrides\":{\"2018-01-16T13:00:00\":{\"excluded\":true}}}"; number = 0; place = 0 }
    ∷ record { text = "{\"@type\":\"Event\",\"uid\":\"a\",\"updated\":\"2020-01-01T00:00:00Z\",\"start\":\"2018-01-15T13:00:00\",\"recurrenceOverrides\":{\"2018-01-16T13:00:00\":{\"excluded\":true,\"uid\":1}}}"; number = 7; place = 0 }
    ∷ record { text = "{\"@type\":\"Event\",\"uid\":\"a\",\"updated\":\"2020-01-01T00:00:00Z\",\"start\":\"2018-01-15T13:00:00\",\"recurrenceOverrides\":{\"2018-01-16T13:00:00\":{\"a/b\":1}}}"; number = 8; place = 0 }
    -- a name that is no date-time, before a patch that is no object
    ∷ record { text = "{\"@type\":\"Event\",\"uid\":\"a\",\"updated\":\"2020-01-01T00:00:00Z\",\"start\":\"2018-01-15T13:00:00\",\"recurrenceOverrides\":{\"2018-01-16\":null}}"; number = 21; place = 113 }
    ∷ record { text = "{\"@type\":\"Event\",\"uid\":\"a\",\"updated\":\"2020-01-01T00:00:00Z\",\"start\":\"2018-01-15T13:00:00\",\"recurrenceOverrides\":{\"2018-01-16T13:00:00\":{\"start\":null}}}"; number = 20; place = 144 }
    ∷ []

-- The number of a text, and its place.
abbrev Found : Type 0
Found = ℕ × ℕ

pub worked : map {B = Found} (λ (c : Case). (event_fault (ascii c.text), event_place (ascii c.text))) cases ≡ map (λ (c : Case). (c.number, c.place)) cases
unfolding cases run past is_space is_digit space_at digits_at some_digits_at int_at frac_at power_at exp_at unsigned_at number_at is_hex hex_at is_escaped escape_at char_at chars_at string_at is_tail tails_at second_at multi_at word_at scalar_at after_at first_at colon_at name_at elements_at members_at array_of object_of value_of value_at array_at object_at end_at text_at bytes_at raw_at same slashed ahead member_at first_member_at next_member_at members_from members_of element_at first_element_at next_element_at elements_from elements_of field_named fields_repeat fields_slashed fields_bad find_in look_up decimal goes_on signed size_at whole_at integer_at scalar_tree fields_of items_of tree_by tree_at text_tree kind_at free_busy_of privacy_of month_written month_of frequency_of weekday_of skip_fault rscale_fault is_local fraction_fault seconds_at local_of date_at is_time is_real second_of_day meets follows ends_in_z is_utc two_at four_at all_digits non_zero last_of ends_in_zero legal_fraction before amount_of capped point_at days_of seconds_of whole_of fraction_of length_of letter_at unit_at secondAt-duration-grammar minute_at hour_at clock_at time_at day_at week_at cal_at dated_at duration_at is_duration upper lower is_date day_of from_month from_year date_of weekdayOf-gregorian length_in start_in month_length month_start month_day is_leap year_length leap_years first_of_year missing no_event details_in event_in event_fault patched patched_start has_mark name_fault name_faults alone excluded_fault patch_in override_of overrides_in read_overrides filled read_uid read_updated date_time read_start read_until named read_zone read_length read_busy read_boolean read_privacy read_text or_wrong optional unsupported read_all limited required read_frequency at_least_one read_count signed_up_to read_signed read_weekday read_nth nday_in read_nday read_month entries_of by_list read_scale read_skip unsupported_lists both_ends any_nth nth_under maybe rule_in read_rule read_rules list_of member is_text is_type faults_at all_of is_wrong order decides first faults_in faults_of is_no_event event_first event_place place_in placed entry inside present read_type of_word of_integer
worked = refl
