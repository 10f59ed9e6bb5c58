-- What a call keeps of an accepted event stands for it, for the callers of `lists`.
use Prim.Native.Nat.{ℕ, ◌*◌, ◌<◌, ◌≤◌, ◌^◌}
use mathlib.Core.Bool.{Bool, true, false}
use mathlib.Core.List.{List, [], map}
use mathlib.Core.Path.{◌≡◌, sym, ap, subst, ◌∙◌}
use native.Mathlib.Omega.{arith}
use lib.ListN.{length, take, length-map}
use Rattle.property.specs.Inner.From.{value_in}
use Rattle.property.proofs.Ranges.{Short}
use Rattle.rule.specs.Gives.{end_day}
use Rattle.rule.specs.Written.{RecurrenceRule}
use Rattle.event.specs.Event.{event_fault, event_of}
use Rattle.event.specs.Overrides.{read_overrides}
use Rattle.event.specs.Reading.{present}
use Rattle.event.specs.Rules.{read_rules}
use Rattle.event.specs.Types.{Details, Override}
use Rattle.override_text.specs.declared.Own.{Own}
use Rattle.override_text.specs.Inner.Lists.{Filled}
use Rattle.override_text.specs.Inner.Meaning.{details_in}
use Rattle.override_text.proofs.RangeLaws.{InYears, all-counted, all_ids, all-gone, all-places}
use Rattle.event_text.specs.Inner.Front.{front_of, inner}
use Rattle.event_text.specs.Inner.Held.{from_head}
use Rattle.event_text.specs.declared.Head.{Head}
use Rattle.event_text.proofs.Accepted.{Accepted}
use Rattle.event_text.proofs.FromHead.{head-details, head-rules, head-excluded, head-overrides, head-accepted}
use Rattle.call_definitions.specs.Occurrence.{dates_of, is_occurrence, override_at, patched_by, details_at}
use Rattle.dates.specs.declared.Tracks.{Tracks}
use Rattle.dates.specs.Inner.Tracked.{tracks_of}
use Rattle.dates.specs.Inner.Loaded.{loaded}
use Rattle.dates.specs.Inner.Stands.{Settles, Stands, overrides_of}
use Rattle.record.specs.Inner.Utc.{times_of}
use Rattle.record.specs.Inner.Occurrences.{Small}
use Rattle.writer.specs.Inner.Details.{details_by}
use Rattle.loading.specs.Inner.Rules.{Season, SettledRules}
use Rattle.loading.specs.Inner.Patches.{patches_in, Overridden}
use Rattle.loading.proofs.PatchLaws.{front-stored, dates-same, details-same, small-each, Ranged, patches-many, patches-each, patches-range, patches-most}
use Rattle.loading.proofs.YearLaws.{event-years}

module _ (s : List ℕ) (h : Head) (is : from_head inner s h ≡ front_of s) (ok : event_fault s ≡ 0) where
  fine : Accepted (from_head inner s h)
  fine = head-accepted s h is ok

  mine : Details
  mine = (from_head inner s h).details

  pub kept-season : (limit : ℕ) → limit ≤ end_day → Season h.start limit
  kept-season limit within =
      record { low = omega (arith, fine.start.from); high = omega (arith, fine.start.to); within = within }

  ranged : Ranged (event_of s).overrides
  unfolding mine
  ranged = subst Ranged (sym (head-overrides s h is)) (patches-range s mine fine.short h.overrides fine.overrides)

  pub kept-years : (x : ℕ) → is_occurrence (event_of s) x ≡ true → (366 * 86400 ≤ x) × (x < 3067672 * 86400)
  kept-years x e =
      let begin : InYears (event_of s).details.start = subst (λ (d : Details). InYears d.start) (sym (head-details s h is)) fine.start in
      let w = event-years (event_of s) begin ranged x e in
      (w.from, w.to)

  -- the three lists that `load_overrides` filled, and the event's own details
  module _ (o : Own) (same : details_in s o ≡ (from_head inner s h).details) (ids₀ ids₁ : List ℕ) (gone₀ gone₁ : List Bool) (places₀ places₁ : List ℕ) (n : ℕ)
      (room : (256 ≤ length ids₀) × ((256 ≤ length gone₀) × (256 ≤ length places₀)))
      (filled : (own : Details)
      → Filled (present [] (read_overrides own) (value_in inner s h.overrides)).value (patches_in s h.overrides) ids₀ ids₁ gone₀ gone₁ places₀ places₁ n)
    where
      over : List Override
      over = (present [] (read_overrides mine) (value_in inner s h.overrides)).value

      stored : Filled over (patches_in s h.overrides) ids₀ ids₁ gone₀ gone₁ places₀ places₁ n
      unfolding over
      stored = filled mine

      most : length over ≤ 256
      unfolding over mine
      most = patches-most s mine h.overrides fine.overrides

      many : n ≡ length over
      many = all-counted _ _ _ _ _ _ _ _ _ stored most

      pub kept-bounds : n ≤ 256
      kept-bounds = omega (arith, many, most)

      ids_are : take n ids₁ ≡ map (λ (v : Override). v.id) over
      ids_are =
          ap (take n) (all_ids _ _ _ _ _ _ _ _ _ stored most)
          ∙ front-stored ids₀ (map (λ (v : Override). v.id) over) n (length-map over (λ (v : Override). v.id) ∙ sym many) (omega (arith, kept-bounds, room.0))

      gone-are : take n gone₁ ≡ map (λ (v : Override). v.excluded) over
      gone-are =
          ap (take n) (all-gone _ _ _ _ _ _ _ _ _ stored most)
          ∙ front-stored gone₀ (map (λ (v : Override). v.excluded) over) n (length-map over (λ (v : Override). v.excluded) ∙ sym many) (omega (arith, kept-bounds, room.1.0))

      even : length (patches_in s h.overrides) ≡ length over
      unfolding over
      even = patches-many s mine h.overrides

      places_are : take n places₁ ≡ patches_in s h.overrides
      places_are =
          ap (take n) (all-places _ _ _ _ _ _ _ _ _ stored most even)
          ∙ front-stored places₀ (patches_in s h.overrides) n (even ∙ sym many) (omega (arith, kept-bounds, room.1.1))

      pub kept-even : Overridden (length (take n ids₁)) (length (take n gone₁)) (length (take n places₁))
      kept-even =
          let a : length (take n ids₁) ≡ length over = ap length ids_are ∙ length-map over (λ (v : Override). v.id) in
          let b : length (take n gone₁) ≡ length over = ap length gone-are ∙ length-map over (λ (v : Override). v.excluded) in
          let c : length (take n places₁) ≡ length over = ap length places_are ∙ even in
          record { marks = a ∙ sym b; patches = a ∙ sym c }

      overrides-are : (event_of s).overrides ≡ over
      unfolding over mine
      overrides-are = head-overrides s h is

      pub kept-details : (x : ℕ) → details_by s (details_in s o) (take n ids₁) (take n places₁) x ≡ details_at (event_of s) x
      unfolding details_at over mine
      kept-details x =
          rw (ids_are, places_are, same)
          (details-same s mine over (patches_in s h.overrides) even (patches-each s mine h.overrides) x
          ∙ (λ i. patched_by (sym (head-details s h is) i) x (override_at (sym overrides-are i) x)))

      pub kept_small : (floating : Bool) (x : ℕ) → x < 2 ^ 60
          → Small x (times_of floating (details_by s (details_in s o) (take n ids₁) (take n places₁) x))
      unfolding details_at
      kept_small floating x b =
          let short : Short (event_of s).details.length = subst (λ (d : Details). Short d.length) (sym (head-details s h is)) fine.short in
          subst (λ (d : Details). Small x (times_of floating d)) (sym (kept-details x)) (small-each floating (event_of s).details short (event_of s).overrides ranged x b)

      pub kept-stands : (limit : ℕ) → limit ≤ end_day → (rules : Tracks) (flags : List Bool) (excluded : Tracks) (excluded_flags : List Bool)
          → SettledRules false h.start limit (present [] read_rules (value_in inner s h.rules)).value rules flags
          → SettledRules true h.start limit (present [] read_rules (value_in inner s h.excluded)).value excluded excluded_flags
          → Stands (dates_of (event_of s)) limit (loaded h.start rules flags excluded excluded_flags (take n ids₁) (take n gone₁))
      unfolding dates_of
      kept-stands limit within rules flags excluded excluded_flags kept left =
          record {
            start = sym (ap (λ (d : Details). d.start) (head-details s h is));
            within = within;
            rules =
                subst (λ (l : List RecurrenceRule). Settles false h.start limit l (tracks_of rules) flags) (sym (head-rules s h is)) kept.settles;
            excluded =
                subst (λ (l : List RecurrenceRule). Settles true h.start limit l (tracks_of excluded) excluded_flags) (sym (head-excluded s h is)) left.settles;
            overrides =
                ap (map (λ (v : Override). record { id = v.id; excluded = v.excluded })) overrides-are
                ∙ (dates-same over ∙ (λ i. overrides_of (sym ids_are i) (sym gone-are i)));
          }
