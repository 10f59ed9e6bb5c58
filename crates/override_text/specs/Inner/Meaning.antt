-- What the code's structs mean: the definitions' readings and details, with the texts that stand at the places, and the fault that decides.
use Rattle.std.specs.Prelude.{ℕ, Bool, List}
use Rattle.std.proofs.Math.Option.{Option}
use Rattle.event.specs.Types.{Text, Length, Details, Override}
use Rattle.event.specs.Reading.{Reading}
use Rattle.property.specs.Inner.From.{text_in}
use Rattle.override_text.specs.declared.Own.{Own}
use Rattle.override_text.specs.declared.Patch.{Patch}
use Rattle.override_text.specs.declared.When.{When}
use Rattle.override_text.specs.declared.Lasting.{Lasting}
use Rattle.override_text.specs.declared.Mark.{Mark}
use Rattle.override_text.specs.declared.Shown.{Shown}

abbrev pub span : ℕ → ℕ → Length
span days seconds = record { days = days; seconds = seconds }

abbrev pub when_in : When → Reading ℕ
when_in w = record { value = w.value; fault = w.fault }

abbrev pub lasting_in : Lasting → Reading Length
lasting_in w = record { value = span w.days w.seconds; fault = w.fault }

abbrev pub mark_in : Mark → Reading Bool
mark_in w = record { value = w.value; fault = w.fault }

abbrev pub shown_in : List ℕ → Shown → Reading (Option Text)
shown_in s w = record { value = text_in s w.place; fault = w.fault }

abbrev pub details_in : List ℕ → Own → Details
details_in s o =
    record {
      start = o.start;
      length = span o.days o.seconds;
      busy = o.busy;
      all_day = o.allday;
      title = text_in s o.title;
      description = text_in s o.description;
    }

abbrev pub override_in : List ℕ → ℕ → Patch → Override
override_in s id p =
    record {
      id = id;
      excluded = p.excluded;
      details = record {
        start = p.start;
        length = span p.days p.seconds;
        busy = p.busy;
        all_day = p.allday;
        title = text_in s p.title;
        description = text_in s p.description;
      };
    }
