-- The `@type` of the objects of a list of rules.
use Rattle.std.specs.Prelude.{ℕ, List}
use Rattle.json_text.specs.Ascii.{ascii}
use Rattle.rule_text.specs.declared.Object.{Object}
use Rattle.rule_text.specs.declared.Object.TheVariants.{Rule, Day}

-- "Each has `@type` `RecurrenceRule`", "`byDay` entries have `@type` `NDay`"
abbrev pub type_of : Object → List ℕ
type_of Rule = ascii "RecurrenceRule"
type_of Day = ascii "NDay"
