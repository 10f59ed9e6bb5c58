-- The words of a rule of recurrence, 01, "Rules of recurrence".
use Rattle.std.specs.Prelude.{if◌then◌else◌, ℕ, List}
use Rattle.json_text.specs.Ascii.{ascii}
use Rattle.json_walk.specs.Strings.{same}
use Rattle.keywords.specs.declared.Rate.{Rate}
use Rattle.keywords.specs.declared.Rate.TheVariants.{Daily, Weekly, Monthly, Yearly, Fault}
use Rattle.keywords.specs.declared.Named.{Named}
use Rattle.keywords.specs.declared.Named.TheVariants.{Number, Wrong}

-- "`frequency` daily, weekly, monthly or yearly (hourly, minutely, secondly: 8; others: 6)"; 02, 4: "unknown word in a closed list .. 24".
unfoldable pub frequency_of : List ℕ → Rate
frequency_of s =
    if same s (ascii "daily") then Daily else
    if same s (ascii "weekly") then Weekly else
    if same s (ascii "monthly") then Monthly else
    if same s (ascii "yearly") then Yearly else
    if same s (ascii "hourly") then Fault 8 else
    if same s (ascii "minutely") then Fault 8 else
    if same s (ascii "secondly") then Fault 8 else
    Fault 24

-- "`day` from `mo` to `su`": 0 is Monday; another word is 24.
unfoldable pub weekday_of : List ℕ → Named
weekday_of s =
    if same s (ascii "mo") then Number 0 else
    if same s (ascii "tu") then Number 1 else
    if same s (ascii "we") then Number 2 else
    if same s (ascii "th") then Number 3 else
    if same s (ascii "fr") then Number 4 else
    if same s (ascii "sa") then Number 5 else
    if same s (ascii "su") then Number 6 else
    Wrong 24

-- "`skip` forward or backward answer 8; `skip` omit is allowed": the fault, 0 where there is none.
unfoldable pub skip_fault : List ℕ → ℕ
skip_fault s =
    if same s (ascii "omit") then 0 else
    if same s (ascii "forward") then 8 else
    if same s (ascii "backward") then 8 else
    24

-- "an `rscale` other than `gregorian` .. answer[s] 8"
unfoldable pub rscale_fault : List ℕ → ℕ
rscale_fault s = if same s (ascii "gregorian") then 0 else 8
