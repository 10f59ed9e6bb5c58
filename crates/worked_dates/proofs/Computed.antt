-- Outcomes in a form that the checker computes: ids from their candidates, so that no proof goes through the seconds of the window.
use Prim.Native.Nat.{ℕ}
use mathlib.Core.List.{List, [], map}
use mathlib.Core.Path.{◌≡◌, refl, ap, ◌∙◌}
use lib.IntN.{ℤ}
use Rattle.signed.specs.Place.{place_of}
use Rattle.gregorian.specs.Year.{is_leap, year_length, leap_years, first_of_year}
use Rattle.gregorian.specs.Month.{length_in, start_in, month_length, month_start}
use Rattle.gregorian.specs.Days.{day_of, from_month, from_year, date_of, weekday_of}
use Rattle.rule.specs.Day.{on_date, day_at}
use Rattle.rule.specs.Lists.{any, meets, absent, or_else, count_in, within, not_after}
use Rattle.rule.specs.Period.{period_of, since_first, days_of, in_step}
use Rattle.rule.specs.Implied.{implied_day, implied_month_day, implied_month, days_from, month_days_from, months_from}
use Rattle.rule.specs.Stays.{counts_in_year, is_nth, meets_nth, meets_day, meets_month_day, meets_month, stays, stays_on, is_place, picked}
use Rattle.rule.specs.Gives.{picks, falls, gives}
use Rattle.recurrence.specs.Event.{override_excludes, override_names, is_start, some_gives, rule_gives, excluded_rule_gives, in_set}
use Rattle.recurrence.specs.Ids.{keep}
use Rattle.recurrence.specs.Inner.Candidates.{insert, insert_all, days_that, is_past, rule_candidates, all_candidates, candidates, in_window, ids_by_candidates}
use Rattle.recurrence.proofs.Candidates.{ids-by-candidates}
use Rattle.little_endian.specs.Bytes.{bytes_of, twos}
use Rattle.sheet.specs.Writing.{row_bytes, rows_bytes, trailer_bytes, sheet_of}
use Rattle.zone.specs.Table as zone
use Rattle.zone.specs.Table.{transitions, larger, mark, all_within, increasing, valid_table}
use Rattle.zone.specs.Lookup.{last_after, offset_at, utc_at}
use Rattle.json_walk.specs.Strings.{same}
use Rattle.keywords.specs.declared.Privacy.{Privacy}
use Rattle.keywords.specs.declared.Privacy.TheVariants.{Public, Private, Secret}
use Rattle.event.specs.Types.{Event}
use Rattle.call_definitions.specs.Window.{since1600, since1970, valid_window}
use Rattle.call_definitions.specs.Occurrence.{dates_of, occurrences, override_at, with_start, patched_by, details_at}
use Rattle.call_definitions.specs.Utc.{ZoneTable, utc_of, utc_start, days_later, utc_end}
use Rattle.call_definitions.specs.Bytes.{marks_of, row_of, rows_for, listed, rows_in, written_version, table_of}
use Rattle.call_definitions.specs.Answer.{Outcome, other_zone, answer_for, outcome_by, expanded}
use Rattle.worked_dates.specs.Inner.Written.{Case}
use Rattle.worked_dates.specs.Inner.Worked.{first, last, room, wanted, Worked}

found : Event → Privacy → ℕ → ℕ → List ℕ
found e Public from to = ids_by_candidates (dates_of e) from to
found e Private from to = ids_by_candidates (dates_of e) from to
found e Secret from to = []

listed_found : (e : Event) (privacy : Privacy) (from to : ℕ) → listed e privacy from to ≡ found e privacy from to
unfolding listed occurrences found
listed_found e Public from to = ids-by-candidates (dates_of e) from to
listed_found e Private from to = ids-by-candidates (dates_of e) from to
listed_found e Secret from to = refl

-- the outcome over the date-times that are listed
over : ZoneTable → Event → ℤ → ℤ → List ℕ → List ℕ → Outcome
over zones e from to buffer xs =
    let table = sheet_of written_version (rows_for zones e xs) in
    outcome_by (answer_for zones from to e.privacy e.zone table buffer) table buffer

-- Who unfolds it unfolds all that an outcome is made of.
unfoldable pub computed : ZoneTable → Event → ℤ → ℤ → List ℕ → Outcome
unfolding place_of is_leap year_length leap_years first_of_year length_in start_in month_length month_start day_of from_month from_year date_of weekday_of on_date day_at any meets absent or_else count_in within not_after period_of since_first days_of in_step implied_day implied_month_day implied_month days_from month_days_from months_from counts_in_year is_nth meets_nth meets_day meets_month_day meets_month stays stays_on is_place picked picks falls gives override_excludes override_names is_start some_gives rule_gives excluded_rule_gives in_set insert insert_all keep days_that is_past rule_candidates all_candidates candidates in_window ids_by_candidates bytes_of twos transitions larger mark zone.within all_within increasing valid_table last_after offset_at utc_at same since1600 since1970 valid_window dates_of override_at with_start patched_by details_at utc_of utc_start days_later utc_end marks_of row_of rows_for row_bytes rows_bytes trailer_bytes sheet_of other_zone answer_for outcome_by over found
computed zones e from to buffer = over zones e from to buffer (found e e.privacy (since1600 from) (since1600 to))

expanded-computed : (zones : ZoneTable) (e : Event) (from to : ℤ) (buffer : List ℕ) → expanded zones e from to buffer ≡ computed zones e from to buffer
unfolding expanded table_of rows_in over computed
expanded-computed zones e from to buffer =
    ap (over zones e from to buffer) (listed_found e e.privacy (since1600 from) (since1600 to))

-- What is computed of a list of cases is true of their outcomes.
pub by-computing : (cases : List Case)
    → map (λ (c : Case). computed c.zones c.event first last (room c)) cases ≡ map wanted cases
    → Worked cases
by-computing cases done = (λ i. map (λ (c : Case). expanded-computed c.zones c.event first last (room c) i) cases) ∙ done
