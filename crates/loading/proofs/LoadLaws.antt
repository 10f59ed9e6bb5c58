-- What the calls of `load` say of an accepted event, joined: h is its head, o its own details.
use Prim.Native.Nat.{ℕ, ◌+◌, ◌-◌, ◌≤◌}
use mathlib.Core.Bool.{Bool, true, false}
use mathlib.Core.List.{List, [], ◌++◌, map, append-nil}
use mathlib.Core.Path.{◌≡◌, sym, ap, subst, ◌∙◌}
use native.Mathlib.Omega.{arith}
use lib.ListN.{length, take, drop, length-append, length-drop, drop_of_length-le}
use lib.Seq.{length-sets, length-take-le, take_at, drop_at, drop-drop}
use Rattle.matcher.specs.Inner.Layout.{list_size, lists_size}
use Rattle.property.specs.Inner.From.{name_in, value_in}
use Rattle.event.specs.Event.{event_of}
use Rattle.event.specs.Overrides.{read_overrides}
use Rattle.event.specs.Reading.{present}
use Rattle.event.specs.Rules.{read_rules}
use Rattle.event.specs.Types.{Details, Override}
use Rattle.override_text.specs.declared.Own.{Own}
use Rattle.override_text.specs.Inner.Lists.{Filled}
use Rattle.override_text.specs.Inner.Meaning.{details_in}
use Rattle.event_text.specs.Inner.Front.{inner}
use Rattle.event_text.specs.Inner.Held.{from_head}
use Rattle.event_text.specs.declared.Head.{Head}
use Rattle.event_text.proofs.FromHead.{head-zone, head-accepted}
use Rattle.call_definitions.specs.Utc.{is_floating}
use Rattle.call_definitions.specs.Occurrence.{dates_of}
use Rattle.dates.specs.declared.Tracks.{Tracks}
use Rattle.dates.specs.Inner.Loaded.{loaded}
use Rattle.dates.specs.Inner.Stands.{Stands}
use Rattle.dates.specs.Inner.Tracked.{Tracked}
use Rattle.window.specs.Inner.Sorted.{Ordered}
use Rattle.loading.specs.Inner.Loads.{Loadable, Loads}
use Rattle.loading.specs.Inner.Patches.{patches_in}
use Rattle.loading.specs.Inner.Rules.{Season, SettledRules}
use Rattle.loading.proofs.KeptLaws.{kept-season, kept-bounds, kept-even, kept-details, kept_small, kept-stands}

-- ---- the two halves of the rows, lent one after the other

pub first-size : (rows : List Bool) → length rows ≡ lists_size → length (take list_size rows) ≡ list_size
first-size rows size = length-take-le list_size rows (omega (arith, size))

module _ (rows first : List Bool) (size : length rows ≡ lists_size) (half : length first ≡ list_size) where
  once : List Bool
  once = first ++ drop list_size rows

  once-size : length once ≡ lists_size
  unfolding once
  once-size = omega (arith, size, half, length-append first (drop list_size rows), length-drop list_size rows)

  pub second-size : length (take (length (first ++ drop list_size rows) - list_size) (drop list_size (first ++ drop list_size rows))) ≡ list_size
  unfolding once
  second-size = length-take-le (length once - list_size) (drop list_size once) (omega (arith, length-drop list_size once)) ∙ omega (arith, once-size)

  front : take list_size once ≡ first
  unfolding once
  front = take_at first (drop list_size rows) list_size half

  nothing-after : drop (length once - list_size) (drop list_size once) ≡ []
  nothing-after = drop-drop (length once - list_size) list_size once ∙ drop_of_length-le once {i = list_size + (length once - list_size)} (omega (arith, once-size))

  pub both-back : (second : List Bool)
      → take list_size (first ++ drop list_size rows) ++ (second ++ drop (length (first ++ drop list_size rows) - list_size) (drop list_size (first ++ drop list_size rows)))
      ≡ first ++ second
  unfolding once
  both-back second = rw (front, nothing-after, append-nil second)

-- ---- the overrides stand at the front of slices that are as long as before

module _ (overrides : List Override) (patches : List ℕ) (ids₀ ids₁ : List ℕ) (gone₀ gone₁ : List Bool) (places₀ places₁ : List ℕ) (n : ℕ)
    (w : Filled overrides patches ids₀ ids₁ gone₀ gone₁ places₀ places₁ n) where
  ids-long : length ids₁ ≡ length ids₀
  ids-long = ap length w.ids ∙ length-sets ids₀ 0 (take 256 (map (λ (o : Override). o.id) overrides))

  gone_long : length gone₁ ≡ length gone₀
  gone_long = ap length w.gone ∙ length-sets gone₀ 0 (take 256 (map (λ (o : Override). o.excluded) overrides))

  places-long : length places₁ ≡ length places₀
  places-long = ap length w.places ∙ length-sets places₀ 0 (take 256 patches)

-- ---- the event

module _ (s t : List ℕ) (h : Head) (limit rows ids gone places : ℕ) (p : Loadable s t h limit rows ids gone places) where
  season : Season h.start limit
  season = kept-season s h p.taken.head p.taken.accepted limit p.within

  -- what the loading of the two lists asks for
  pub rules-need : ((present [] read_rules (value_in inner s h.rules)).faults ≡ []) × Season h.start limit
  rules-need = ((head-accepted s h p.taken.head p.taken.accepted).rules, season)

  pub excluded-need : ((present [] read_rules (value_in inner s h.excluded)).faults ≡ []) × Season h.start limit
  excluded-need = ((head-accepted s h p.taken.head p.taken.accepted).excluded, season)

module _ (s t : List ℕ) (h : Head) (limit rows : ℕ) (ids₀ : List ℕ) (gone₀ : List Bool) (places₀ : List ℕ)
    (p : Loadable s t h limit rows (length ids₀) (length gone₀) (length places₀))
    (o : Own) (own : (text : List ℕ) → details_in text o ≡ (from_head inner text h).details) (ids₁ : List ℕ) (gone₁ : List Bool) (places₁ : List ℕ) (n : ℕ)
    (filled : (d : Details)
    → Filled (present [] (read_overrides d) (value_in inner s h.overrides)).value (patches_in s h.overrides) ids₀ ids₁ gone₀ gone₁ places₀ places₁ n) where
  room : (256 ≤ length ids₀) × ((256 ≤ length gone₀) × (256 ≤ length places₀))
  room = (p.ids_room, (p.gone_room, p.places_room))

  few : n ≤ 256
  few = kept-bounds s h p.taken.head p.taken.accepted o (own s) ids₀ ids₁ gone₀ gone₁ places₀ places₁ n room filled

  pub ids_fit : n ≤ length ids₁
  ids_fit = omega (arith, few, p.ids_room, ids-long _ _ _ _ _ _ _ _ _ (filled (details_in s o)))

  gone_fit : n ≤ length gone₁
  gone_fit = omega (arith, few, p.gone_room, gone_long _ _ _ _ _ _ _ _ _ (filled (details_in s o)))

  places_fit : n ≤ length places₁
  places_fit = omega (arith, few, p.places_room, places-long _ _ _ _ _ _ _ _ _ (filled (details_in s o)))

  pub ids-taken : n ≡ length (take n ids₁)
  ids-taken = sym (length-take-le n ids₁ ids_fit)

  module _ (rules excluded : Tracks) (first second rows₁ : List Bool) (halves : (length first ≡ list_size) × (length second ≡ list_size)) (parts : rows₁ ≡ first ++ second)
      (kept : SettledRules false h.start limit (present [] read_rules (value_in inner s h.rules)).value rules first)
      (left : SettledRules true h.start limit (present [] read_rules (value_in inner s h.excluded)).value excluded second)
    where
      first_rows : first ≡ take list_size rows₁
      first_rows = sym (ap (take list_size) parts ∙ take_at first second list_size halves.0)

      second-rows : second ≡ drop list_size rows₁
      second-rows = sym (ap (drop list_size) parts ∙ drop_at first second list_size halves.0)

      -- the event as it is kept
      pub event-kept : (floating sorted : Bool) → floating ≡ is_floating (name_in s h.zone) → Ordered (take n ids₁) sorted
          → Loads s limit rows₁ ids₁ gone₁ places₁
          (record {
            dates = record { start = h.start; rules = rules; excluded = excluded };
            form = record { own = o; floating = floating; sorted = sorted };
            count = n;
          })
      event-kept floating sorted floats order =
          record {
            few = few;
            ids_fit = ids_fit;
            gone_fit = gone_fit;
            places_fit = places_fit;
            whole = record {
              size = omega (arith, ap length parts, length-append first second, halves.0, halves.1);
              rules_tracked = subst (Tracked rules) halves.0 kept.tracked;
              excluded_tracked = subst (Tracked excluded) halves.1 left.tracked;
              overrides = (kept-even s h p.taken.head p.taken.accepted o (own s) ids₀ ids₁ gone₀ gone₁ places₀ places₁ n room filled).marks;
              begins = (season s t h limit _ _ _ _ p).high;
            };
            stands =
                subst (Stands (dates_of (event_of s)) limit) (λ i. loaded h.start rules (first_rows i) excluded (second-rows i) (take n ids₁) (take n gone₁))
                (kept-stands s h p.taken.head p.taken.accepted o (own s) ids₀ ids₁ gone₀ gone₁ places₀ places₁ n room filled limit p.within rules first excluded second kept left);
            details = kept-details s h p.taken.head p.taken.accepted o (own s) ids₀ ids₁ gone₀ gone₁ places₀ places₁ n room filled;
            floating = floats ∙ ap is_floating (sym (head-zone s h p.taken.head));
            small = kept_small s h p.taken.head p.taken.accepted o (own s) ids₀ ids₁ gone₀ gone₁ places₀ places₁ n room filled _;
            sorted = order;
          }
