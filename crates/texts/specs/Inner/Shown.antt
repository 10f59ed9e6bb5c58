-- What the look-up's answers mean: the number and the place of the text, for every case.
use Rattle.std.specs.Prelude.{if◌then◌else◌, ℕ, ◌+◌, ◌≤◌, Bool, true, false, ◌≡◌, eqb}
use Rattle.std.specs.Prelude as std
use Rattle.std.proofs.Math.Option.{Option}
use Rattle.event.specs.Types.{Text, Details}
use Rattle.call_definitions.specs.Call.{Shown, no_place}
use Rattle.texts.specs.declared.Part.{Part}
use Rattle.texts.specs.declared.Told.{Told}

abbrev pub part_shown : Part → Shown
part_shown p = record { answer = 0; start = p.start; length = p.length }

-- 14: "words asked for a date that is no occurrence, or of a secret event".
abbrev pub lookup_shown : std.Option Part → Shown
lookup_shown (std.Some p) = part_shown p
lookup_shown std.None = no_place 14

abbrev pub told_shown : Told → Shown
told_shown t = record { answer = t.answer; start = t.start; length = t.length }

-- n bytes from a place on. "the part has no bytes": both are 0.
unfoldable pub spanned : ℕ → ℕ → Shown
spanned at n = if eqb n 0 then no_place 0 else record { answer = 0; start = at; length = n }

-- It is the place that is asked for, and lies in a text of so many bytes.
pub record Placed (size : ℕ) (o r : Shown) : Type 0 where
  pub is : r ≡ o
  pub within : r.start + r.length ≤ size

-- "the title or the description of one occurrence"
abbrev pub chosen : Bool → Details → Option Text
chosen true d = d.title
chosen false d = d.description

-- What is shown of an event that is not secret: whether it is public, whether the date is an occurrence, and the place of its text.
unfoldable pub shown_by : Bool → Bool → Shown → Shown
shown_by is_public occurs place = if occurs then (if is_public then place else no_place 0) else no_place 14
