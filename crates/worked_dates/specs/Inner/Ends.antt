-- Worked ends: request 2, "A day is not 86,400 seconds", by the steps of source document 004, "Duration".
use Rattle.std.specs.Prelude.{◌+◌, ◌*◌, false, List, [], ◌∷◌, pos, neg_ℤ}
use Rattle.std.proofs.Math.Option.{none, some}
use Rattle.rule.specs.declared.Frequency.TheVariants.{Daily}
use Rattle.json_text.specs.Ascii.{ascii}
use Rattle.sheet.specs.Writing.{sheet_of}
use Rattle.call_definitions.specs.Utc.{ZoneTable}
use Rattle.call_definitions.specs.Bytes.{written_version}
use Rattle.call_definitions.specs.Results.{zones_of}
use Rattle.worked_dates.specs.Inner.Written.{Case, on, length_of, lasting, event_of, rule, row, ending}

-- ---- zone tables: the changes that the cases need

-- +00:00, from 2026-03-29T01:00:00Z +01:00, from 2026-10-25T01:00:00Z +00:00 again.
unfoldable pub london : ZoneTable
london = zones_of (ascii "Europe/London") (pos 0) (pos 1774746000 ∷ pos 1792890000 ∷ []) (pos 3600 ∷ pos 0 ∷ [])

-- -05:00, from 2026-03-08T07:00:00Z -04:00, from 2026-11-01T06:00:00Z -05:00 again.
unfoldable pub new_york_zone : ZoneTable
new_york_zone = zones_of (ascii "America/New_York") (neg_ℤ (pos 18000)) (pos 1772953200 ∷ pos 1793512800 ∷ []) (neg_ℤ (pos 14400) ∷ neg_ℤ (pos 18000) ∷ [])

-- +11:00, from 2026-04-04T15:00:00Z +10:30, from 2026-10-03T15:30:00Z +11:00 again.
unfoldable pub lord_howe : ZoneTable
lord_howe = zones_of (ascii "Australia/Lord_Howe") (pos 39600) (pos 1775314800 ∷ pos 1791041400 ∷ []) (pos 37800 ∷ pos 39600 ∷ [])

-- -12:00, from 1993-08-21T12:00:00Z +12:00: 21 August 1993 was skipped.
unfoldable pub kwajalein : ZoneTable
kwajalein = zones_of (ascii "Pacific/Kwajalein") (neg_ℤ (pos 43200)) (pos 745934400 ∷ []) (pos 43200 ∷ [])

-- Made up: -12:00, from 2026-01-01T12:00:00Z +14:00. The clock goes from 2026-01-01T00:00:00 to 2026-01-02T02:00:00.
unfoldable pub jumping : ZoneTable
jumping = zones_of (ascii "Made/Up") (neg_ℤ (pos 43200)) (pos 1767268800 ∷ []) (pos 50400 ∷ [])

-- +05:30, from 1985-12-31T18:30:00Z +05:45 for good.
unfoldable pub kathmandu : ZoneTable
kathmandu = zones_of (ascii "Asia/Kathmandu") (pos 19800) (pos 504901800 ∷ []) (pos 20700 ∷ [])

-- Made up: +00:00, from 10000-01-01T00:00:00Z +01:00.
unfoldable pub late : ZoneTable
late = zones_of (ascii "Made/Up") (pos 0) (pos 253402300800 ∷ []) (pos 3600 ∷ [])

-- ---- cases that are no single event in a zone

-- Floating, 2026-03-28T12:00:00 P1D: from 12:00:00 of the 28th to 12:00:00 of the 29th, whatever the clock of the table does.
unfoldable pub floating : Case
floating =
    record {
      zones = london;
      event = event_of none (on 2026 3 28 + 43200) (length_of 1 0) [] [] [];
      table = sheet_of written_version (row (pos 1774699200) (pos 1774699200) (pos 1774785600) 5 ∷ []);
    }

-- London, daily from 2026-03-27T12:00:00, count 3, PT24H; an override makes it P1D on the 28th. That occurrence lasts 23 hours, from 2026-03-28T12:00:00Z
-- to 2026-03-29T11:00:00Z; the two others last 24, from 2026-03-27T12:00:00Z and from 2026-03-29T11:00:00Z.
unfoldable pub patched : Case
patched =
    record {
      zones = london;
      event =
          event_of (some london.name) (on 2026 3 27 + 43200) (length_of 0 86400) (rule Daily 1 0 [] [] [] (some 3) ∷ []) []
          (record { id = on 2026 3 28 + 43200; excluded = false; details = lasting (on 2026 3 28 + 43200) (length_of 1 0) } ∷ []);
      table =
          sheet_of written_version
          (row (pos 1774612800) (pos 1774612800) (pos 1774699200) 1
          ∷ row (pos 1774699200) (pos 1774699200) (pos 1774782000) 1
          ∷ row (pos 1774785600) (pos 1774782000) (pos 1774868400) 1
          ∷ []);
    }

-- ---- all cases: zone, local start, length; the local start from 1970, the start and the end in UTC

unfoldable pub ends : List Case
ends =
    -- London, 2026-03-28T12:00:00 P1D: ends 2026-03-29T11:00:00Z, 23 hours later.
    ending london (on 2026 3 28 + 43200) (length_of 1 0) (pos 1774699200) (pos 1774699200) (pos 1774782000)
    -- The same with PT24H: ends 2026-03-29T12:00:00Z, 24 hours later.
    ∷ ending london (on 2026 3 28 + 43200) (length_of 0 86400) (pos 1774699200) (pos 1774699200) (pos 1774785600)
    -- London, 2026-10-24T12:00:00 P1D: from 2026-10-24T11:00:00Z to 2026-10-25T12:00:00Z, 25 hours.
    ∷ ending london (on 2026 10 24 + 43200) (length_of 1 0) (pos 1792843200) (pos 1792839600) (pos 1792929600)
    -- New York, 2026-03-07T12:00:00 P1D: from 2026-03-07T17:00:00Z to 2026-03-08T16:00:00Z, 23 hours.
    ∷ ending new_york_zone (on 2026 3 7 + 43200) (length_of 1 0) (pos 1772884800) (pos 1772902800) (pos 1772985600)
    -- New York, 2026-10-31T12:00:00 P1D: from 2026-10-31T16:00:00Z to 2026-11-01T17:00:00Z, 25 hours.
    ∷ ending new_york_zone (on 2026 10 31 + 43200) (length_of 1 0) (pos 1793448000) (pos 1793462400) (pos 1793552400)
    -- Lord Howe, 2026-04-04T12:00:00 P1D: from 2026-04-04T01:00:00Z to 2026-04-05T01:30:00Z, 24 hours and a half.
    ∷ ending lord_howe (on 2026 4 4 + 43200) (length_of 1 0) (pos 1775304000) (pos 1775264400) (pos 1775352600)
    -- Lord Howe, 2026-10-03T12:00:00 P1D: from 2026-10-03T01:30:00Z to 2026-10-04T01:00:00Z, 23 hours and a half.
    ∷ ending lord_howe (on 2026 10 3 + 43200) (length_of 1 0) (pos 1791028800) (pos 1790991000) (pos 1791075600)
    -- London, 2026-03-28T01:30:00 P1D: 2026-03-29T01:30:00 does not exist, and the offset before holds. Ends 2026-03-29T01:30:00Z, 24 hours later.
    ∷ ending london (on 2026 3 28 + 5400) (length_of 1 0) (pos 1774661400) (pos 1774661400) (pos 1774747800)
    -- London, 2026-10-24T01:30:00 P1D: 2026-10-25T01:30:00 occurs twice, and the offset before holds. From 2026-10-24T00:30:00Z to
    -- 2026-10-25T00:30:00Z, 24 hours.
    ∷ ending london (on 2026 10 24 + 5400) (length_of 1 0) (pos 1792805400) (pos 1792801800) (pos 1792888200)
    -- London, 2026-03-29T01:30:00 P1D, a start that does not exist: from 2026-03-29T01:30:00Z to 2026-03-30T00:30:00Z, 23 hours.
    ∷ ending london (on 2026 3 29 + 5400) (length_of 1 0) (pos 1774747800) (pos 1774747800) (pos 1774830600)
    -- London, 2026-10-25T01:30:00 P1D, a start that occurs twice: from 2026-10-25T00:30:00Z to 2026-10-26T01:30:00Z, 25 hours.
    ∷ ending london (on 2026 10 25 + 5400) (length_of 1 0) (pos 1792891800) (pos 1792888200) (pos 1792978200)
    -- London, 2026-03-25T09:00:00 P1W2DT3H: nine days lead to 2026-04-03T09:00:00, which is 08:00:00Z; ends 2026-04-03T11:00:00Z, 218 hours
    -- (9 days and 2 hours) later.
    ∷ ending london (on 2026 3 25 + 32400) (length_of (7 * 1 + 2) 10800) (pos 1774429200) (pos 1774429200) (pos 1775214000)
    -- London, 2026-03-27T18:00:00 P1DT12H: the day leads to 2026-03-28T18:00:00Z, and the clock jumps in the 12 hours after it. Ends
    -- 2026-03-29T06:00:00Z, 36 hours later; the clock shows 07:00:00.
    ∷ ending london (on 2026 3 27 + 64800) (length_of 1 43200) (pos 1774634400) (pos 1774634400) (pos 1774764000)
    -- London, 2026-10-23T18:00:00 P1DT12H: from 2026-10-23T17:00:00Z to 2026-10-25T05:00:00Z, 36 hours; the clock shows 05:00:00.
    ∷ ending london (on 2026 10 23 + 64800) (length_of 1 43200) (pos 1792778400) (pos 1792774800) (pos 1792904400)
    -- Kwajalein, 1993-08-21T10:00:00 P1D, on the day that was skipped: from 1993-08-21T22:00:00Z to 1993-08-22T10:00:00, the same instant.
    ∷ ending kwajalein (on 1993 8 21 + 36000) (length_of 1 0) (pos 745927200) (pos 745970400) (pos 745970400)
    -- A jump of 26 hours, 2026-01-01T12:00:00 P1D: starts 2026-01-02T00:00:00Z and ends 2026-01-01T22:00:00Z, 2 hours before.
    ∷ ending jumping (on 2026 1 1 + 43200) (length_of 1 0) (pos 1767268800) (pos 1767312000) (pos 1767304800)
    -- Kathmandu, 9998-12-31T23:59:59 P366D: the local end is 10000-01-01T23:59:59. From 9998-12-31T18:14:59Z to 10000-01-01T18:14:59Z.
    ∷ ending kathmandu (on 9998 12 31 + 86399) (length_of 366 0) (pos 253370764799) (pos 253370744099) (pos 253402366499)
    -- The same where the clock goes forward at the start of the year 10000: from 9998-12-31T23:59:59Z to 10000-01-01T22:59:59Z.
    ∷ ending late (on 9998 12 31 + 86399) (length_of 366 0) (pos 253370764799) (pos 253370764799) (pos 253402383599)
    ∷ floating
    ∷ patched
    ∷ []
