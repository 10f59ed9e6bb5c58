-- Dates of document 01, and some that everybody can look up, hold of the definitions by computation: as one list with a single statement.
use Prim.Native.Nat.{ℕ}
use mathlib.Core.Bool.{Bool, true}
use mathlib.Core.List.{List, [], ◌∷◌, map}
use mathlib.Core.Path.{◌≡◌, refl}
use lib.IntN.{ℤ, pos, negsuc}
use Rattle.gregorian.specs.declared.Date.{Date}
use Rattle.gregorian.specs.declared.Moment.{Moment}
use Rattle.gregorian.specs.Year.{is_leap, year_length, leap_years, first_of_year}
use Rattle.gregorian.specs.Month.{length_in, start_in, month_length, month_start}
use Rattle.gregorian.specs.Days.{is_date, day_of, from_month, from_year, date_of, weekday_of}
use Rattle.gregorian.specs.Inner.Seconds.{floor_div, floor_mod, moment_of, seconds_of}

-- A date, its weekday (0 is Monday) and its midnight in seconds from 1970-01-01.
pub record Case : Type 0 where
  pub date : Date
  pub weekday : ℕ
  pub midnight : ℤ

pub case : ℕ → ℕ → ℕ → ℕ → ℤ → Case
case y m d w t = record { date = record { year = y; month = m; day = d }; weekday = w; midnight = t }

-- What the definitions say of a case: is it a date, the date of its day, the weekday, its midnight, and the day of that midnight.
pub record Found : Type 0 where
  pub valid : Bool
  pub again : Date
  pub weekday : ℕ
  pub midnight : ℤ
  pub day : ℕ

pub found : Case → Found
found c =
    record {
      valid = is_date c.date;
      again = date_of (day_of c.date);
      weekday = weekday_of (day_of c.date);
      midnight = seconds_of (record { day = day_of c.date; second = 0 });
      day = (moment_of c.midnight).day;
    }

pub wanted : Case → Found
wanted c = record { valid = true; again = c.date; weekday = c.weekday; midnight = c.midnight; day = day_of c.date }

pub cases : List Case
cases =
    case 1970 1 1 3 (pos 0)
    ∷ case 1969 12 31 2 (negsuc 86399)
    ∷ case 1600 1 1 5 (negsuc 11676095999)
    ∷ case 1601 1 1 0 (negsuc 11644473599)
    ∷ case 2000 2 29 1 (pos 951782400)
    ∷ case 1997 8 5 1 (pos 870739200)
    ∷ case 2018 1 15 0 (pos 1515974400)
    ∷ case 2020 10 4 6 (pos 1601769600)
    ∷ case 2020 11 1 6 (pos 1604188800)
    ∷ case 2024 1 3 2 (pos 1704240000)
    ∷ case 2024 2 29 3 (pos 1709164800)
    ∷ case 2024 5 31 4 (pos 1717113600)
    ∷ case 9999 1 1 4 (pos 253370764800)
    ∷ case 9999 12 31 4 (pos 253402214400)
    ∷ []

pub worked : map found cases ≡ map wanted cases
unfolding case found wanted cases is_leap year_length leap_years first_of_year length_in start_in month_length month_start is_date day_of from_month from_year date_of weekday_of floor_div floor_mod moment_of seconds_of
worked = refl
