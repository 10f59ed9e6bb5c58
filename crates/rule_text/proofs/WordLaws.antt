-- Words: what holds of every reading of one, and the types.
use Rattle.std.specs.Prelude.{if◌then◌else◌}
use Prim.Native.Nat.{ℕ}
use mathlib.Core.Bool.{Bool, true, false}
use mathlib.Core.List.{List}
use mathlib.Core.Option.{Option, none, some}
use mathlib.Core.Path.{◌≡◌}
use Rattle.json_walk.specs.Strings.{same, slashed}
use Rattle.json_walk.proofs.Laws.{same-eq}
use Rattle.json_tree.specs.Tree.{Json}
use Rattle.event.specs.Types.{Text}
use Rattle.event.specs.Reading.{Reading, wrong, or_wrong}
use Rattle.event.specs.Values.{of_word, string}
use Rattle.rule_text.specs.Inner.Types.{type_of}
use Rattle.rule_text.specs.declared.Object.{Object}
use Rattle.rule_text.specs.declared.Object.TheVariants.{Rule, Day}

-- It holds of the two that stand in, and of each by its bytes.
pub word_holds : {A : Type 0} (P : Reading A → Type 0) (a : A) (f : List ℕ → Reading A) → P (wrong a 20) → P (wrong a 26) → ((raw : List ℕ) → P (f raw)) → (v : Json) → P (of_word a f v)
unfolding of_word or_wrong
word_holds P a f p q each v = go (string v)
  where
    pick : (c : Bool) (raw : List ℕ) → P (if c then wrong a 26 else f raw)
    pick true raw = q
    pick false raw = each raw

    go : (t : Option Text) → P (or_wrong a 20 (λ (t : Text). if slashed t.raw then wrong a 26 else f t.raw) t)
    go none = p
    go (some t) = pick (slashed t.raw) t.raw

-- A string that is a type has no backslash.
pub type-plain : (object : Object) (raw : List ℕ) → same raw (type_of object) ≡ true → slashed raw ≡ false
unfolding slashed
type-plain Rule raw e = rw (same-eq raw (type_of Rule) e)
type-plain Day raw e = rw (same-eq raw (type_of Day) e)
