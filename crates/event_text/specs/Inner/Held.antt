-- What the code holds of an event's own members, as the definitions' readings.
use Rattle.std.specs.Prelude.{ℕ, List}
use Rattle.std.proofs.Math.Option.{Option}
use Rattle.keywords.specs.declared.Privacy.{Privacy}
use Rattle.property.specs.Inner.From.{text_in, name_in, value_in}
use Rattle.event.specs.Types
use Rattle.event.specs.Reading.{Reading}
use Rattle.event.specs.Inner.Decided.{Decided}
use Rattle.override_text.specs.declared.Shown.{Shown}
use Rattle.event_text.specs.declared.Access.{Access}
use Rattle.event_text.specs.declared.Details.{Details}
use Rattle.event_text.specs.declared.Head.{Head}
use Rattle.event_text.specs.Inner.Front.{Front}

abbrev pub from_access : Access → Reading Privacy
from_access r = record { value = r.privacy; fault = r.fault }

-- A name by its place.
abbrev pub from_name : List ℕ → Shown → Reading (Option (List ℕ))
from_name s r = record { value = name_in s r.place; fault = r.fault }

-- The details of an occurrence.
abbrev pub details_of : List ℕ → Details → Types.Details
details_of s r =
    record {
      start = r.start;
      length = record { days = r.days; seconds = r.seconds };
      busy = r.busy;
      all_day = r.allday;
      title = text_in s r.title;
      description = text_in s r.description;
    }

abbrev pub from_details : List ℕ → Details → Decided Types.Details
from_details s r = record { value = details_of s r; fault = r.fault }

-- A head, whose lists are values of the tree with so many levels.
abbrev pub from_head : ℕ → List ℕ → Head → Front
from_head l s r =
    record {
      zone = name_in s r.zone;
      privacy = r.privacy;
      details = record {
        start = r.start;
        length = record { days = r.days; seconds = r.seconds };
        busy = r.busy;
        all_day = r.allday;
        title = text_in s r.title;
        description = text_in s r.description;
      };
      rules = value_in l s r.rules;
      excluded_rules = value_in l s r.excluded;
      overrides = value_in l s r.overrides;
      fault = r.fault;
    }
