-- The words that mark an event: `freeBusyStatus` and `privacy`.
use Rattle.std.specs.Prelude.{if◌then◌else◌, ℕ, List}
use Rattle.json_text.specs.Ascii.{ascii}
use Rattle.json_walk.specs.Strings.{same}
use Rattle.keywords.specs.declared.FreeBusy.{FreeBusy}
use Rattle.keywords.specs.declared.FreeBusy.TheVariants.{Free, Busy, Fault}
use Rattle.keywords.specs.declared.Privacy.{Privacy}
use Rattle.keywords.specs.declared.Privacy.TheVariants.{Public, Private, Secret}

-- 01: "`freeBusyStatus`: `free` or `busy`"; 02, 4: "unknown word in a closed list .. 24".
unfoldable pub free_busy_of : List ℕ → FreeBusy
free_busy_of s =
    if same s (ascii "free") then Free else
    if same s (ascii "busy") then Busy else
    Fault 24

-- 01: "`privacy`: `public` (default), `private`, `secret`; any other string counts as private."
unfoldable pub privacy_of : List ℕ → Privacy
privacy_of s =
    if same s (ascii "public") then Public else
    if same s (ascii "private") then Private else
    if same s (ascii "secret") then Secret else
    Private
