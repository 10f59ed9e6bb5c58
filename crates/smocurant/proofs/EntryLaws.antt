-- The numbers gathered of lent entries give what the entries themselves give.
use Prim.Native.Nat.{ℕ}
use mathlib.Core.Bool.{Bool, true, false}
use mathlib.Core.Path.{◌≡◌, refl, sym, ap, ◌∙◌, subst}
use mathlib.Core.List.{List}
use lib.IntN.{ℤ}
use Rattle.call_definitions.specs.Answer.{Outcome}
use Rattle.zone.specs.Table.{valid_table}
use Rattle.call_definitions.specs.Call.{expand_text}
use Rattle.call_definitions.proofs.Invalid.{invalid-same}
use Rattle.call_definitions.specs.Results.{zones_of, Gives}
use Rattle.entries.specs.declared.Transition.{Transition}
use Rattle.entries.specs.Gather.{instants_of, offsets_of}
use Rattle.entries.specs.Inner.Gathers.{gathered}
use Rattle.entries.proofs.ZoneLaws.{first-enough, valid-whole}

-- All entries, or the first 1,025: a valid table has no more, and of the invalid ones all give the same.
pub first-outcome : (name : List ℕ) (initial : ℤ) (ys : List Transition) (s : List ℕ) (from to : ℤ) (buffer : List ℕ)
    → expand_text (zones_of name initial (instants_of (gathered ys)) (offsets_of (gathered ys))) s from to buffer
    ≡ expand_text (zones_of name initial (instants_of ys) (offsets_of ys)) s from to buffer
first-outcome name initial ys s from to buffer = by (valid_table initial (instants_of ys) (offsets_of ys)) refl
  where
    by : (b : Bool) → valid_table initial (instants_of ys) (offsets_of ys) ≡ b
        → expand_text (zones_of name initial (instants_of (gathered ys)) (offsets_of (gathered ys))) s from to buffer
        ≡ expand_text (zones_of name initial (instants_of ys) (offsets_of ys)) s from to buffer
    by true e = ap (λ (l : List Transition). expand_text (zones_of name initial (instants_of l) (offsets_of l)) s from to buffer) (valid-whole initial ys e)
    by false e = invalid-same (zones_of name initial (instants_of (gathered ys)) (offsets_of (gathered ys))) (zones_of name initial (instants_of ys) (offsets_of ys)) s from to buffer (sym (first-enough initial ys) ∙ e) e

-- What the call with the gathered numbers says, said of the entries.
pub of-entries : (ys : List Transition) (instants offsets : List ℤ) → instants ≡ instants_of (gathered ys) → offsets ≡ offsets_of (gathered ys)
    → (name : List ℕ) (initial : ℤ) (s : List ℕ) (from to : ℤ) (buffer : List ℕ) (answer n : ℕ) (last : List ℕ)
    → Gives (expand_text (zones_of name initial instants offsets) s from to buffer) answer n last
    → Gives (expand_text (zones_of name initial (instants_of ys) (offsets_of ys)) s from to buffer) answer n last
of-entries ys instants offsets e f name initial s from to buffer answer n last g =
    subst (λ (o : Outcome). Gives o answer n last)
    (ap (λ (l : List ℤ). expand_text (zones_of name initial l offsets) s from to buffer) e
    ∙ ap (λ (l : List ℤ). expand_text (zones_of name initial (instants_of (gathered ys)) l) s from to buffer) f
    ∙ first-outcome name initial ys s from to buffer)
    g
