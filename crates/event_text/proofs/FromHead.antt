-- What a head says of the event of its text, for the callers of `heads::head`: the event's parts, and what is known where no fault applies.
use Prim.Native.Nat.{ℕ}
use mathlib.Core.List.{List, []}
use mathlib.Core.Path.{◌≡◌, ap, sym, subst, ◌∙◌}
use Rattle.property.specs.Inner.From.{name_in, value_in}
use Rattle.event.specs.Event.{event_fault, event_of}
use Rattle.event.specs.Overrides.{read_overrides}
use Rattle.event.specs.Reading.{present}
use Rattle.event.specs.Rules.{read_rules}
use Rattle.event.specs.Types.{Event}
use Rattle.event_text.specs.Inner.Front.{front_of, inner, event_with}
use Rattle.event_text.specs.Inner.Held.{from_head}
use Rattle.event_text.specs.declared.Head.{Head}
use Rattle.event_text.proofs.Accepted.{Accepted, accepted}
use Rattle.event_text.proofs.Events.{event-front}

module _ (s : List ℕ) (r : Head) (h : from_head inner s r ≡ front_of s) where
  pub head-event : event_of s ≡ event_with (from_head inner s r)
  head-event = event-front s ∙ ap event_with (sym h)

  pub head-zone : (event_of s).zone ≡ name_in s r.zone
  unfolding event_with
  head-zone = ap (λ (e : Event). e.zone) head-event

  pub head-privacy : (event_of s).privacy ≡ r.privacy
  unfolding event_with
  head-privacy = ap (λ (e : Event). e.privacy) head-event

  pub head-details : (event_of s).details ≡ (from_head inner s r).details
  unfolding event_with
  head-details = ap (λ (e : Event). e.details) head-event

  pub head-rules : (event_of s).rules ≡ (present [] read_rules (value_in inner s r.rules)).value
  unfolding event_with
  head-rules = ap (λ (e : Event). e.rules) head-event

  pub head-excluded : (event_of s).excluded_rules ≡ (present [] read_rules (value_in inner s r.excluded)).value
  unfolding event_with
  head-excluded = ap (λ (e : Event). e.excluded_rules) head-event

  pub head-overrides : (event_of s).overrides ≡ (present [] (read_overrides (from_head inner s r).details) (value_in inner s r.overrides)).value
  unfolding event_with
  head-overrides = ap (λ (e : Event). e.overrides) head-event

  pub head-accepted : event_fault s ≡ 0 → Accepted (from_head inner s r)
  head-accepted e = subst Accepted (sym h) (accepted s e)
