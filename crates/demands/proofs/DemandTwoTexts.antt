-- Demand 2, "UTC times, marks and words are those of the same document", of every call for a text that keeps its contract.
use Prim.Native.Nat.{ℕ}
use mathlib.Core.Bool.{Bool, true, false}
use mathlib.Core.List.{List, [], ◌∷◌}
use mathlib.Core.Option.{Option, none, some}
use mathlib.Core.Path.{◌≡◌, refl, sym, ap, ◌∙◌, subst}
use native.Mathlib.Omega.{arith}
use lib.IntN.{ℤ}
use lib.ListN.{length, take, drop}
use Rattle.keywords.specs.declared.Privacy.{Privacy}
use Rattle.keywords.specs.declared.Privacy.TheVariants.{Public}
use Rattle.event.specs.Types.{Text, Details}
use Rattle.event.specs.Event.{event_of}
use Rattle.call_definitions.specs.Occurrence.{is_occurrence, details_at}
use Rattle.call_definitions.specs.Answer.{date_time_of, text_answer_for, text_answer}
use Rattle.call_definitions.specs.Call.{Shown, text_fault, place_from, place_of, shown_for, shown_at, text_of}
use Rattle.call_definitions.specs.Results.{Shows, Tells}
use Rattle.demands.specs.Two.{raw_of, Told, PartTold}
use Rattle.demands.proofs.OwnBytes.{OwnIn}

-- The part that a place names is a text.
record Names (s : List ℕ) (o : Option Text) (p : Shown) : Type 0 where
  part : take p.length (drop p.start s) ≡ raw_of o
  sized : p.length ≡ length (raw_of o)

place-names : (s : List ℕ) (o : Option Text) → OwnIn s o → Names s o (place_of o)
unfolding place_of raw_of
place-names s none h = record { part = refl; sized = refl }
place-names s (some t) h = go t.at t.raw h
  where
    go : (at : ℕ) (raw : List ℕ) → take (length raw) (drop at s) ≡ raw → Names s (some (record { at = at; raw = raw })) (place_from at raw)
    go at [] h = unfold place_from in (record { part = refl; sized = refl })
    go at (b ∷ raw) h = unfold place_from in (record { part = h; sized = refl })

module _ (which : Details → Option Text) (s : List ℕ) (owned : (x : ℕ) → OwnIn s (which (details_at (event_of s) x))) (date : ℤ) where
  -- an occurrence of a public event shows its place, any other date has no answer 0
  record Placed (d : Option ℕ) (p : Shown) : Type 0 where
    id : ℕ
    dated : d ≡ some id
    occurs : is_occurrence (event_of s) id ≡ true
    names : Names s (which (details_at (event_of s) id)) p

  module _ (public : (event_of s).privacy ≡ Public) where
    shown-placed : (x : ℕ) (t : Bool) → is_occurrence (event_of s) x ≡ t → (shown_for Public (text_answer_for Public t) (place_of (which (details_at (event_of s) x)))).answer ≡ 0
        → Placed (some x) (shown_for Public (text_answer_for Public t) (place_of (which (details_at (event_of s) x))))
    unfolding shown_for text_answer_for
    shown-placed x true o h = record { id = x; dated = refl; occurs = o; names = place-names s (which (details_at (event_of s) x)) (owned x) }
    shown-placed x false o h = absurd (omega (arith, h))

    at-placed : (d : Option ℕ) → (shown_at which (event_of s) d).answer ≡ 0 → Placed d (shown_at which (event_of s) d)
    unfolding shown_at text_answer
    at-placed none h = absurd (omega (arith, h))
    at-placed (some x) h =
        subst
        (λ (c : Privacy).
        (shown_for c (text_answer_for c (is_occurrence (event_of s) x)) (place_of (which (details_at (event_of s) x)))).answer ≡ 0
        → Placed (some x) (shown_for c (text_answer_for c (is_occurrence (event_of s) x)) (place_of (which (details_at (event_of s) x)))))
        (sym public) (shown-placed x (is_occurrence (event_of s) x) refl) h

    accepted-text : text_fault s ≡ 0 → text_of which s date ≡ shown_at which (event_of s) (date_time_of date)
    unfolding text_of
    accepted-text h = rw h

    pub text-told : text_fault s ≡ 0 → (answer start size : ℕ) → Shows (text_of which s date) answer start size → answer ≡ 0 → Told which s (event_of s) date start size
    text-told h answer start size g done =
        let is = accepted-text h in
        let p = at-placed (date_time_of date) (sym (g.answer_is ∙ ap (λ (u : Shown). u.answer) is) ∙ done) in
        let from = g.start_is ∙ ap (λ (u : Shown). u.start) is in
        let long = g.length_is ∙ ap (λ (u : Shown). u.length) is in
        record {
          id = p.id;
          dated = p.dated;
          occurs = p.occurs;
          part = rw (from, long) p.names.part;
          size_is = long ∙ p.names.sized;
        }

    pub part-told : text_fault s ≡ 0 → (answer : ℕ) (part : List ℕ) → Tells (text_of which s date) s answer part → answer ≡ 0 → PartTold which (event_of s) date part
    part-told h answer part g done =
        let o = text_of which s date in
        let t = text-told h answer o.start o.length (record { answer_is = g.answer_is; start_is = refl; length_is = refl }) done in
        record { id = t.id; dated = t.dated; occurs = t.occurs; bytes = g.part_is ∙ t.part }
