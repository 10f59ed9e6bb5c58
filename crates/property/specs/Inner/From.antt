-- What the readers' answers mean: the definitions' readings, with the texts that stand at the places.
use Rattle.std.specs.Prelude.{ℕ, ◌+◌, Bool, false, List, Some, None}
use Rattle.std.proofs.Math.Option.{Option, none, some}
use Rattle.json_walk.specs.Walk.{members_of}
use Rattle.json_tree.specs.Tree.{Json, Fields, fields_of, tree_at}
use Rattle.keywords.specs.declared.Privacy.{Privacy}
use Rattle.keywords.specs.declared.Privacy.TheVariants.{Private}
use Rattle.event.specs.Types.{Text}
use Rattle.event.specs.Reading.{Reading, right, wrong}
use Rattle.property.specs.Inner.Words.{word_at}
use Rattle.property.specs.declared.Flag.{Flag}
use Rattle.property.specs.declared.Flag.TheVariants as flag
use Rattle.property.specs.declared.Setting.{Setting}
use Rattle.property.specs.declared.Setting.TheVariants as setting
use Rattle.property.specs.declared.Zone.{Zone}
use Rattle.property.specs.declared.Zone.TheVariants as zone
use Rattle.property.specs.declared.Passage.{Passage}
use Rattle.property.specs.declared.Passage.TheVariants as passage
use Rattle.property.specs.Inner.Place.{Place}

abbrev pub from_flag : Flag → Reading Bool
from_flag (flag.Is b) = right b
from_flag (flag.Fault n) = wrong false n

abbrev pub from_setting : Setting → Reading Privacy
from_setting (setting.Is p) = right p
from_setting (setting.Fault n) = wrong Private n

abbrev pub from_zone : List ℕ → Zone → Reading (Option (List ℕ))
from_zone s zone.Floating = right none
from_zone s (zone.Named i) = right (some (word_at s i))
from_zone s (zone.Fault n) = wrong none n

-- The text whose opening quote stands at a place.
abbrev pub text_at : List ℕ → ℕ → Text
text_at s i = record { at = i + 1; raw = word_at s i }

-- What stands at a place that may be none: a text, a name, a value of the tree.
abbrev pub text_in : List ℕ → Place → Option Text
text_in s None = none
text_in s (Some i) = some (text_at s i)

abbrev pub name_in : List ℕ → Place → Option (List ℕ)
name_in s None = none
name_in s (Some i) = some (word_at s i)

abbrev pub value_in : ℕ → List ℕ → Place → Option Json
value_in l s None = none
value_in l s (Some i) = some (tree_at l s i)

abbrev pub from_passage : List ℕ → Passage → Reading (Option Text)
from_passage s (passage.At i) = right (some (text_at s i))
from_passage s (passage.Fault n) = wrong none n

-- The fields of the object at a place, whose values have so many levels.
abbrev pub fields_in : ℕ → List ℕ → ℕ → Fields
fields_in l s at = fields_of (λ v. tree_at l s v) s (members_of s at)
