-- The names of the members that are read, by their numbers, and how the number of a name is found.
use Rattle.std.specs.Prelude.{if◌then◌else◌, ℕ, List, [], ◌∷◌, eqb, ltb, get_or}
use Rattle.json_text.specs.Bytes.{byte}
use Rattle.json_walk.specs.Strings.{raw_at, same}
use Rattle.json_walk.specs.Inner.Within.{ahead, within}
use Rattle.json_text.specs.Ascii.{ascii}

-- Those of an NDay, of a patch, of an event, of a rule.
unfoldable pub vocabulary : List (List ℕ)
vocabulary =
    ascii "@type" ∷ ascii "day" ∷ ascii "nthOfPeriod"
    ∷ ascii "start" ∷ ascii "duration" ∷ ascii "freeBusyStatus" ∷ ascii "showWithoutTime" ∷ ascii "title" ∷ ascii "description" ∷ ascii "excluded"
    ∷ ascii "uid" ∷ ascii "updated" ∷ ascii "timeZone" ∷ ascii "privacy" ∷ ascii "recurrenceRules" ∷ ascii "excludedRecurrenceRules"
    ∷ ascii "recurrenceOverrides" ∷ ascii "recurrenceId"
    ∷ ascii "frequency" ∷ ascii "interval" ∷ ascii "firstDayOfWeek" ∷ ascii "rscale" ∷ ascii "skip" ∷ ascii "byDay" ∷ ascii "byMonthDay" ∷ ascii "byMonth"
    ∷ ascii "bySetPosition" ∷ ascii "until" ∷ ascii "count" ∷ ascii "byYearDay" ∷ ascii "byWeekNo" ∷ ascii "byHour" ∷ ascii "byMinute" ∷ ascii "bySecond"
    ∷ []

-- The name of a number. There are 34.
unfoldable pub word_of : ℕ → List ℕ
word_of w = get_or vocabulary w []

-- The number w of a word where the name x is this word, else 34.
unfoldable pub numbered : List ℕ → List ℕ → ℕ → ℕ
numbered x word w = if same x word then w else 34

-- The number of a name of fewer than five bytes, of five, and so on, whose first byte is b.
unfoldable pub of_short : ℕ → List ℕ → ℕ
of_short b x =
    if eqb b 0x75 then numbered x (ascii "uid") 10 else
    if eqb b 0x64 then numbered x (ascii "day") 1 else
    numbered x (ascii "skip") 22

unfoldable pub of_five : ℕ → List ℕ → ℕ
of_five b x =
    if eqb b 0x40 then numbered x (ascii "@type") 0 else
    if eqb b 0x73 then numbered x (ascii "start") 3 else
    if eqb b 0x74 then numbered x (ascii "title") 7 else
    if eqb b 0x75 then numbered x (ascii "until") 27 else
    if eqb b 0x63 then numbered x (ascii "count") 28 else
    numbered x (ascii "byDay") 23

unfoldable pub of_seven : ℕ → List ℕ → ℕ
of_seven b x =
    if eqb b 0x75 then numbered x (ascii "updated") 11 else
    if eqb b 0x70 then numbered x (ascii "privacy") 13 else
    if eqb b 0x72 then numbered x (ascii "rscale") 21 else
    if same x (ascii "byHour") then 31 else
    numbered x (ascii "byMonth") 25

unfoldable pub of_eight : ℕ → List ℕ → ℕ
of_eight b x =
    if eqb b 0x74 then numbered x (ascii "timeZone") 12 else
    if eqb b 0x64 then numbered x (ascii "duration") 4 else
    if eqb b 0x69 then numbered x (ascii "interval") 19 else
    if eqb b 0x65 then numbered x (ascii "excluded") 9 else
    if same x (ascii "byWeekNo") then 30 else
    if same x (ascii "byMinute") then 32 else
    numbered x (ascii "bySecond") 33

unfoldable pub of_twelve : ℕ → List ℕ → ℕ
of_twelve b x =
    if eqb b 0x66 then numbered x (ascii "frequency") 18 else
    if eqb b 0x64 then numbered x (ascii "description") 8 else
    if eqb b 0x6E then numbered x (ascii "nthOfPeriod") 2 else
    if eqb b 0x72 then numbered x (ascii "recurrenceId") 17 else
    if same x (ascii "byMonthDay") then 24 else
    numbered x (ascii "byYearDay") 29

unfoldable pub of_long : ℕ → List ℕ → ℕ
of_long b x =
    if eqb b 0x73 then numbered x (ascii "showWithoutTime") 6 else
    if eqb b 0x62 then numbered x (ascii "bySetPosition") 26 else
    if eqb b 0x65 then numbered x (ascii "excludedRecurrenceRules") 15 else
    if same x (ascii "recurrenceRules") then 14 else
    if same x (ascii "recurrenceOverrides") then 16 else
    if same x (ascii "freeBusyStatus") then 5 else
    numbered x (ascii "firstDayOfWeek") 20

-- The number of a name x of n bytes, the first of which is b.
unfoldable pub number_by : ℕ → ℕ → List ℕ → ℕ
number_by n b x =
    if ltb n 5 then of_short b x else
    if eqb n 5 then of_five b x else
    if ltb n 8 then of_seven b x else
    if eqb n 8 then of_eight b x else
    if ltb n 13 then of_twelve b x else
    of_long b x

-- The number of the name whose quotes stand at k and before j.
unfoldable pub number_at : List ℕ → ℕ → ℕ → ℕ
number_at s k j = number_by (within k j) (byte s (ahead s k)) (raw_at s k j)
