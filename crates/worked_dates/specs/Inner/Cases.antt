-- 01, "Worked dates": all cases with a star, in their order.
use Rattle.std.specs.Prelude.{ℕ, ◌+◌, false, List, [], ◌∷◌, pos, neg_ℤ, negsuc}
use Rattle.std.proofs.Math.Option.{none, some}
use Rattle.rule.specs.declared.Frequency.TheVariants.{Daily, Weekly, Monthly, Yearly}
use Rattle.json_text.specs.Ascii.{ascii}
use Rattle.call_definitions.specs.Utc.{ZoneTable}
use Rattle.worked_dates.specs.Inner.Written.{Case, on, length_of, lasting, event_of, rule, dated, ruled, timed}

abbrev mo : ℕ
mo = 0

abbrev tu : ℕ
tu = 1

abbrev we : ℕ
we = 2

abbrev th : ℕ
th = 3

abbrev fr : ℕ
fr = 4

abbrev su : ℕ
su = 6

-- "Start 2018-01-15T13:00:00, America/New_York, PT1H; initial offset -18,000, no entries; widest window. Sheet, 40 bytes"
unfoldable pub new_york : Case
new_york =
    record {
      zones = record { name = ascii "America/New_York"; initial = neg_ℤ (pos 18000); instants = []; offsets = [] };
      event = event_of (some (ascii "America/New_York")) (on 2018 1 15 + 46800) (length_of 0 3600) [] [] [];
      table =
          0xD0 ∷ 0xA5 ∷ 0x5C ∷ 0x5A ∷ 0x00 ∷ 0x00 ∷ 0x00 ∷ 0x00
          ∷ 0x20 ∷ 0xEC ∷ 0x5C ∷ 0x5A ∷ 0x00 ∷ 0x00 ∷ 0x00 ∷ 0x00
          ∷ 0x30 ∷ 0xFA ∷ 0x5C ∷ 0x5A ∷ 0x00 ∷ 0x00 ∷ 0x00 ∷ 0x00
          ∷ 0x01 ∷ 0x00 ∷ 0x00 ∷ 0x00
          ∷ 0x1C ∷ 0x00 ∷ 0x01 ∷ 0x00 ∷ 0x01 ∷ 0x00 ∷ 0x00 ∷ 0x00 ∷ 0x1C ∷ 0x00 ∷ 0x00 ∷ 0x00
          ∷ [];
    }

-- "Offset -25,200, from instant 1,604,221,200 -28,800"
unfoldable pub los_angeles : ZoneTable
los_angeles = record { name = ascii "America/Los_Angeles"; initial = neg_ℤ (pos 25200); instants = pos 1604221200 ∷ []; offsets = neg_ℤ (pos 28800) ∷ [] }

-- "Melbourne, +10:00 to +11:00 at 2020-10-03T16:00:00Z"
unfoldable pub melbourne : ZoneTable
melbourne = record { name = ascii "Australia/Melbourne"; initial = pos 36000; instants = pos 1601740800 ∷ []; offsets = pos 39600 ∷ [] }

unfoldable pub starred : List Case
starred =
    new_york
    -- "2020-11-01T01:30:00 gives 08:30:00Z; 02:00:00 gives 10:00:00Z"
    ∷ timed los_angeles (on 2020 11 1 + 5400) (pos 1604194200) (pos 1604219400)
    ∷ timed los_angeles (on 2020 11 1 + 7200) (pos 1604196000) (pos 1604224800)
    -- "2020-10-04T02:30:00 gives 2020-10-03T16:30:00Z"
    ∷ timed melbourne (on 2020 10 4 + 9000) (pos 1601778600) (pos 1601742600)
    -- "Monthly from 2024-01-31, count 3: Jan 31, Mar 31, May 31. With `byMonthDay` -1: Jan 31, Feb 29, Mar 31."
    ∷ ruled (on 2024 1 31) (rule Monthly 1 mo [] [] [] (some 3)) (on 2024 1 31 ∷ on 2024 3 31 ∷ on 2024 5 31 ∷ [])
    ∷ ruled (on 2024 1 31) (rule Monthly 1 mo [] (negsuc 0 ∷ []) [] (some 3)) (on 2024 1 31 ∷ on 2024 2 29 ∷ on 2024 3 31 ∷ [])
    -- "Yearly from 2024-02-29, count 3: 2024, 2028, 2032."
    ∷ ruled (on 2024 2 29) (rule Yearly 1 mo [] [] [] (some 3)) (on 2024 2 29 ∷ on 2028 2 29 ∷ on 2032 2 29 ∷ [])
    -- "Weekly, interval 2, `tu` and `su`, from 1997-08-05, count 4: 5, 10, 19, 24 August; weeks from `su`: 5, 17, 19, 31."
    ∷ ruled (on 1997 8 5) (rule Weekly 2 mo (tu ∷ su ∷ []) [] [] (some 4)) (on 1997 8 5 ∷ on 1997 8 10 ∷ on 1997 8 19 ∷ on 1997 8 24 ∷ [])
    ∷ ruled (on 1997 8 5) (rule Weekly 2 su (tu ∷ su ∷ []) [] [] (some 4)) (on 1997 8 5 ∷ on 1997 8 17 ∷ on 1997 8 19 ∷ on 1997 8 31 ∷ [])
    -- "Weekly on `mo` from Wednesday 2024-01-03, count 3: 3, 8, 15 January."
    ∷ ruled (on 2024 1 3) (rule Weekly 1 mo (mo ∷ []) [] [] (some 3)) (on 2024 1 3 ∷ on 2024 1 8 ∷ on 2024 1 15 ∷ [])
    -- "Daily from 2024-01-01, count 3, weekly `tu` excluded: 1 and 3 January; an empty override on the 2nd brings it back."
    ∷ dated (event_of none (on 2024 1 1) (length_of 0 0) (rule Daily 1 mo [] [] [] (some 3) ∷ []) (rule Weekly 1 mo (tu ∷ []) [] [] none ∷ []) [])
    (on 2024 1 1 ∷ on 2024 1 3 ∷ [])
    ∷ dated
    (event_of none (on 2024 1 1) (length_of 0 0) (rule Daily 1 mo [] [] [] (some 3) ∷ []) (rule Weekly 1 mo (tu ∷ []) [] [] none ∷ [])
    (record { id = on 2024 1 2; excluded = false; details = lasting (on 2024 1 2) (length_of 0 0) } ∷ []))
    (on 2024 1 1 ∷ on 2024 1 2 ∷ on 2024 1 3 ∷ [])
    -- "Monthly, `mo` to `fr`, position -1, from 2024-05-31, count 3: May 31, Jun 28, Jul 31."
    ∷ ruled (on 2024 5 31) (rule Monthly 1 mo (mo ∷ tu ∷ we ∷ th ∷ fr ∷ []) [] (negsuc 0 ∷ []) (some 3)) (on 2024 5 31 ∷ on 2024 6 28 ∷ on 2024 7 31 ∷ [])
    ∷ []
