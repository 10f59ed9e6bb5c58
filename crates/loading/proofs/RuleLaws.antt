-- One rule after the other: what is settled so far are the first of the list.
use Rattle.std.specs.Prelude.{None}
use Prim.Native.Nat.{ℕ, ◌+◌, ◌<◌, ◌≤◌}
use mathlib.Core.Bool.{Bool}
use mathlib.Core.List.{List, [], ◌∷◌, ◌++◌, map}
use mathlib.Core.Path.{◌≡◌, refl, sym, ap, subst, ◌∙◌}
use native.Mathlib.Numerals.{add-one}
use native.Mathlib.Omega.{arith}
use lib.ListN.{length, take, get_or, length-set}
use lib.Seq.{take-suc, take_all, length-take-le, length-sets}
use Rattle.json_tree.specs.Tree.{tree_at}
use Rattle.rule.specs.declared.Rule.{Rule}
use Rattle.rule.specs.Written.{RecurrenceRule}
use Rattle.rule.specs.Inner.Read.{written, Sized}
use Rattle.matcher.specs.Inner.Layout.{list_size}
use Rattle.fault.specs.Fault.{first, First}
use Rattle.event.specs.Rules.{read_rule, read_rules}
use Rattle.rule_text.specs.Inner.Parts.{RuleRead}
use Rattle.rule_text.specs.Inner.Places.{Places, places_at}
use Rattle.rule_text.proofs.PlaceLaws.{rules-are, rules-few, rules-each, all-at, places-stored}
use Rattle.dates.specs.declared.Tracks.{Tracks}
use Rattle.dates.specs.Inner.Load.{put, Loading, Added}
use Rattle.dates.specs.Inner.Tracked.{tracks_of}
use Rattle.dates.specs.Inner.Stands.{Settles}
use Rattle.dates.proofs.LoadLaws.{loaded-settles, loaded-tracked, none-tracked, none-settles}
use Rattle.loading.specs.Inner.Rules.{Season, Faultless, rules_at, SettledRules}

pub record LoadedTo (excluded : Bool) (start limit : ℕ) (s places : List ℕ) (ts : Tracks) (flags : List Bool) (i : ℕ) : Type 0 where
  pub within : i ≤ length places
  pub count : ts.count ≡ i
  pub list : length ts.list ≡ 8
  pub rows : length flags ≡ list_size
  pub settled : SettledRules excluded start limit (rules_at s (take i places)) ts flags

map-append : (f : ℕ → RecurrenceRule) (a b : List ℕ) → map f (a ++ b) ≡ map f a ++ map f b
map-append f [] b = refl
map-append f (x ∷ a) b = ap (λ (l : List RecurrenceRule). f x ∷ l) (map-append f a b)

rules-more : (s places : List ℕ) (i : ℕ) → i < length places
    → rules_at s (take (i + 1) places) ≡ rules_at s (take i places) ++ ((read_rule (tree_at 14 s (get_or places i 0))).value ∷ [])
unfolding rules_at
rules-more s places i h =
    let one : take (i + 1) places ≡ take i places ++ (get_or places i 0 ∷ []) = ap (λ (k : ℕ). take k places) (add-one i) ∙ take-suc places i 0 h in
    ap (map (λ v. (read_rule (tree_at 14 s v)).value)) one ∙ map-append (λ v. (read_rule (tree_at 14 s v)).value) (take i places) (get_or places i 0 ∷ [])

module _ (excluded : Bool) (start limit : ℕ) (s places : List ℕ) where
  pub loading-starts : (ts : Tracks) (flags : List Bool) → ts.count ≡ 0 → length ts.list ≡ 8 → length flags ≡ list_size → LoadedTo excluded start limit s places ts flags 0
  unfolding rules_at
  loading-starts ts flags c l r =
      record {
        within = omega arith;
        count = c;
        list = l;
        rows = r;
        settled = record { settles = none-settles excluded start limit ts flags c; tracked = none-tracked ts (length flags) c };
      }

  module _ (season : Season start limit) (fine : Faultless s places) (ts : Tracks) (flags : List Bool) (i : ℕ) (w : LoadedTo excluded start limit s places ts flags i) (h : i < length places) where
    pub room : Loading ts.count (length ts.list) (length flags) start limit
    room =
        record {
          room = omega (arith, w.count, w.list, fine.few);
          rows = omega (arith, w.count, w.rows, fine.few);
          few = omega (arith, w.count, fine.few);
          low = season.low;
          high = season.high;
          within = season.within;
        }

    module _ (rule : Rule) (fault : First) (read : RuleRead s (get_or places i 0) rule fault) where
      faultless : fault ≡ None
      unfolding first
      faultless = read.fault 11 ∙ ap first (fine.each i h)

      pub sized : Sized rule
      sized = read.sized faultless

      pub loading-goes-on : (next : Tracks) (after : List Bool) → length after ≡ length flags → Added excluded rule start limit ts flags after next
          → LoadedTo excluded start limit s places next after (i + 1)
      unfolding put
      loading-goes-on next after long a =
          let value : written rule ≡ (read_rule (tree_at 14 s (get_or places i 0))).value = read.value faultless 11 in
          let rules : rules_at s (take i places) ++ (written rule ∷ []) ≡ rules_at s (take (i + 1) places) =
          ap (λ (r : RecurrenceRule). rules_at s (take i places) ++ (r ∷ [])) value ∙ sym (rules-more s places i h) in
          let count : next.count ≡ ts.count + 1 = ap (λ (t : Tracks). t.count) a.list in
          record {
            within = omega arith;
            count = omega (arith, w.count);
            list = ap (λ (t : Tracks). length t.list) a.list ∙ (length-set ts.list ts.count a.track ∙ w.list);
            rows = long ∙ w.rows;
            settled = record {
              settles = subst (λ (l : List RecurrenceRule). Settles excluded start limit l (tracks_of next) after) rules
                  (loaded-settles excluded rule start limit ts flags after next room long a (rules_at s (take i places)) w.settled.settles);
              tracked = loaded-tracked excluded rule start limit ts flags after next room long a w.settled.tracked;
            };
          }

  pub loading-ends : (ts : Tracks) (flags : List Bool) (i : ℕ) → LoadedTo excluded start limit s places ts flags i → length places ≤ i
      → SettledRules excluded start limit (rules_at s places) ts flags
  loading-ends ts flags i w h = subst (λ (l : List ℕ). SettledRules excluded start limit (rules_at s l) ts flags) (take_all i places h) w.settled

-- ---- the list at a place

module _ (s : List ℕ) (at : ℕ) (none : (read_rules (tree_at 15 s at)).faults ≡ []) (before after : List ℕ) (n : ℕ) (stored : Places s at before after n) (size : length before ≡ 8) where
  pub few-places : n ≤ 8
  few-places = omega (arith, rules-few 14 s at none, stored.count)

  pub enough : n ≤ length after
  enough = let long = ap length stored.list ∙ length-sets before 0 (places_at s at) in omega (arith, few-places)

  pub places-long : n ≡ length (take n after)
  places-long = sym (length-take-le n after enough)

  pub places_are : take n after ≡ places_at s at
  places_are = let room : n ≤ length before = omega (arith, few-places) in places-stored s at stored room

  pub places-fine : Faultless s (take n after)
  places-fine =
      subst (Faultless s) (sym places_are)
      (record { few = rules-few 14 s at none; each = λ k h. all-at (λ v. (read_rule (tree_at 14 s v)).faults ≡ []) (rules-each 14 s at none) k 0 h })

  rules-same : rules_at s (take n after) ≡ (read_rules (tree_at 15 s at)).value
  unfolding rules_at
  rules-same = ap (rules_at s) places_are ∙ sym (rules-are 14 s at)

  pub list-settled : (excluded : Bool) (start limit : ℕ) (ts : Tracks) (flags : List Bool) → SettledRules excluded start limit (rules_at s (take n after)) ts flags
      → SettledRules excluded start limit (read_rules (tree_at 15 s at)).value ts flags
  list-settled excluded start limit ts flags w = subst (λ (l : List RecurrenceRule). SettledRules excluded start limit l ts flags) rules-same w
