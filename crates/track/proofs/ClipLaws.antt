-- A run of days clipped to those that a rule can have: from the start's day on and before the rule's end.
use Prim.Native.Nat.{ℕ, ◌+◌, ◌-◌, ◌<◌, ◌≤◌}
use mathlib.Core.Bool.{Bool, false}
use mathlib.Core.List.{List, ◌++◌}
use mathlib.Core.Path.{◌≡◌, refl, sym, ap, ◌∙◌, subst}
use native.Mathlib.Omega.{arith}
use lib.Dec.{ltb}
use lib.ListN.{length, take, drop, length-drop}
use lib.Seq.{length-take-le}
use borrow.Author.Tests.{ltb-true, ltb-false}
use Rattle.rule.proofs.Bools.{by}
use Rattle.matcher.specs.Inner.Walk.{picks_on_by}
use Rattle.track.specs.declared.Track.{Track}
use Rattle.track.specs.Inner.Runs.{has_day, marked, Marking, Run, LaterOf, EarlierOf}
use Rattle.track.proofs.RunLaws.{MarkAt, mark-starts, mark-goes-by, mark-rests, marked-none, marked-shift}
use Rattle.track.proofs.PlainLaws.{has-early, has-over, has-picked, mark-part}

module _ (t : Track) (row : List Bool) (begin first : ℕ) (value : Bool) (hits : List Bool) (from to : ℕ) (low : LaterOf first begin from)
    (high : EarlierOf (first + length hits) t.last to) where
  early : (d : ℕ) → first ≤ d → d < from → has_day t row begin d ≡ false
  early d h less = sym (has-early t row begin d (low.before d h less))

  over : (d : ℕ) → to ≤ d → d < first + length hits → has_day t row begin d ≡ false
  over d h less = has-over t row begin d (high.behind d h less)

  pub clip-none : to ≤ from → hits ≡ marked (has_day t row begin) value first hits
  clip-none h =
      sym (marked-none (has_day t row begin) value first hits
      (λ d a b. by (ltb d from) (λ e. early d a (ltb-true d from e)) (λ e. over d (omega (arith, ltb-false d from e)) b)))

  module _ (fl : ℕ) where
    pub clip-run : Marking t fl first (length hits) → from < to → Run t.terms fl from (length (take (to - first - (from - first)) (drop (from - first) hits)))
    clip-run m h =
        let size = length-take-le (to - first - (from - first)) (drop (from - first) hits) (omega (arith, length-drop (from - first) hits, low.first, high.first)) in
        record {
          row_length = m.row_length;
          week = m.week;
          low = omega (arith, m.low, low.first);
          high = omega (arith, size, m.high, low.first, high.first);
        }

  module _ (part : List Bool) (some-days : from < to)
      (is : part ≡ marked (picks_on_by t.terms row) value from (take (to - first - (from - first)) (drop (from - first) hits))) where
    size : length (take (to - first - (from - first)) (drop (from - first) hits)) ≡ to - from
    size =
        length-take-le (to - first - (from - first)) (drop (from - first) hits) (omega (arith, length-drop (from - first) hits, low.first, high.first))
        ∙ omega (arith, low.first)

    here : part ≡ marked (has_day t row begin) value (first + (from - first)) (take (to - first - (from - first)) (drop (from - first) hits))
    here =
        is
        ∙ marked-shift (picks_on_by t.terms row) (has_day t row begin) value from (first + (from - first)) _
        (λ i less.
        let there : from + i ≡ first + (from - first) + i = omega (arith, low.first) in
        has-picked t row begin (from + i) (omega (arith, low.second)) (omega (arith, size, high.second)) _ refl ∙ ap (has_day t row begin) there)

    passed : MarkAt (has_day t row begin) value first hits hits (from - first)
    passed =
        subst (MarkAt (has_day t row begin) value first hits hits) (omega arith)
        (mark-goes-by (has_day t row begin) value first hits hits 0 first (from - first) (mark-starts (has_day t row begin) value first hits) (omega arith)
        (omega (arith, low.first, high.first)) (λ j b c. early j b (omega (arith, low.first))))

    pub clip-marked : take (from - first) hits ++ (part ++ drop (to - first - (from - first)) (drop (from - first) hits)) ≡ marked (has_day t row begin) value first hits
    clip-marked =
        let room : from - first + (to - first - (from - first)) ≤ length hits = omega (arith, low.first, high.first) in
        let m = mark-part (has_day t row begin) value first hits hits part (from - first) (to - first - (from - first)) passed room here in
        let end : first + (from - first + (to - first - (from - first))) ≡ to = omega (arith, low.first) in
        mark-rests (has_day t row begin) value first hits _ _ _ (length hits - (from - first + (to - first - (from - first)))) m refl (omega (arith, m.size))
        (λ j b c. over j (omega arith) (omega arith))
