-- What was loaded of an accepted event gives its table.
use Prim.Native.Nat.{ℕ, ◌*◌, ◌≤◌}
use mathlib.Core.Bool.{Bool}
use mathlib.Core.List.{List}
use mathlib.Core.Path.{◌≡◌, subst}
use lib.IntN.{ℤ}
use lib.ListN.{take}
use mir.Syntax.{w64}
use mir.Val.{SFits, to_z, of_z}
use mir.Facts.{to_z-of_z}
use Rattle.rule.specs.Gives.{end_day}
use Rattle.event.specs.Event.{event_of}
use Rattle.event_text.specs.declared.Head.{Head}
use Rattle.dates.specs.Inner.Dates.{dates_in}
use Rattle.call_definitions.specs.Results.{zones_of, Gives}
use Rattle.writer.specs.Inner.Table.{table_by, fitted}
use Rattle.writer.specs.Inner.Writes.{row_for}
use Rattle.writer.proofs.WritesLaws.{writes_again}
use Rattle.loading.specs.declared.Kept.{Kept}
use Rattle.loading.specs.Inner.Limit.{limit_of}
use Rattle.loading.specs.Inner.Loads.{Loads}
use Rattle.loading.proofs.CallerLaws.{loads-writes, loads-table}
use Rattle.loading.proofs.WindowLaws.{limit-within, limit-enough}
use Rattle.expansion.specs.Inner.Puts.{Puts}
use Rattle.expansion.specs.Inner.Visible.{table_for, Visible}

module _ (s t : List ℕ) (h : Head) (b : ℤ) (ts ns : List ℤ) (from to : ℕ) (v : Visible s t h b ts ns from to) (limit : ℕ) (is : limit ≡ limit_of to) where
  pub within : limit ≤ end_day
  within = rw is (limit-within to)

  module _ (fits : SFits w64 b) (rows : List Bool) (ids : List ℕ) (gone : List Bool) (places : List ℕ) (k : Kept) (l : Loads s limit rows ids gone places k) where
    pub table-needs : Puts s t k rows (take k.count ids) (take k.count gone) (take k.count places) (to_z w64 (of_z w64 b)) ts ns from to
    table-needs =
        record {
          whole = l.whole;
          span = v.span;
          writes = writes_again _ _ _ _ _ _ _ _ fits (loads-writes s limit rows ids gone places k l b ts ns t h v.taken v.valid);
        }

    enough : to ≤ 86400 * limit
    enough = rw is (limit-enough to v.span.high)

    pub table-put : (buffer : List ℕ) (r n : ℕ) (after : List ℕ)
        → Gives (fitted (table_by (row_for s k.form (take k.count ids) (take k.count places) (to_z w64 (of_z w64 b)) ts ns)
        (dates_in k.dates rows (take k.count ids) (take k.count gone)) from to) buffer) r n after
        → (name : List ℕ) → Gives (fitted (table_for (zones_of name b ts ns) (event_of s) from to) buffer) r n after
    unfolding table_for
    table-put buffer r n after g name =
        subst (λ (bytes : List ℕ). Gives (fitted bytes buffer) r n after) (loads-table s limit rows ids gone places k l b ts ns name from to v.span.order enough)
        (rw (to_z-of_z fits) at g)
