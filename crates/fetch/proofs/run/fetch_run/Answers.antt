-- `fetch::run::fetch_run` meets its contract: refused, or as many records as there are and as there is room for.
use Rattle.sheet.specs.Fetching.{fetch_fault}
use mathlib.Core.Path.{◌≡◌}
use mathlib.Core.Path.{sym, ap, ◌∙◌}
use Prim.Native.Nat.{ℕ, ◌-◌, min}
use native.Mathlib.Omega.{arith}
use Rattle.sheet.proofs.Accepted.{rows_before}
use Rattle.sheet.proofs.FetchLaws.{sheet-accepted, number-below, room, run-refused, run-read}
use Rattle.fetch.proofs.run.fetch_run.Goals as goal

assoc : (a b c : ℕ) → min (min a b) c ≡ min a (min b c)
assoc a b c = omega arith

-- the least of five
least : (a b c d e : ℕ) {x y z w : ℕ} → x ≡ min a b → y ≡ min x c → z ≡ min y d → w ≡ e → min z w ≡ min a (min b (min c (min d e)))
least a b c d e p q r s = rw (s, r, q, p, assoc (min (min a b) c) d e, assoc (min a b) c (min d e), assoc a b (min c (min d e)))

pub returns-then-fault-ne0 : goal.returns-then-fault-ne0
returns-then-fault-ne0 c = run-refused _ _ _ _ _ _ _ c.fetch_fault-fault.ensures c.if-fault-ne0.true

pub count-requires : goal.count-requires
count-requires c = omega (arith, rows_before _ (sheet-accepted _ _ (sym c.fetch_fault-fault.ensures ∙ c.if-fault-ne0.false)))

pub overflow_sub-left : goal.overflow_sub-left
overflow_sub-left c = omega (arith, c.count.ensures, number-below _ _ (sym c.fetch_fault-fault.ensures ∙ c.if-fault-ne0.false))

pub fill-requires : goal.fill-requires
fill-requires c =
    let none : fetch_fault c.args.sheet.now c.args.first ≡ 0 = sym c.fetch_fault-fault.ensures ∙ c.if-fault-ne0.false in
    -- as many as there is room for
    let handed : c.min-n.result ≡ room c.args.sheet.now c.args.first c.args.ids.now c.args.starts.now c.args.ends.now c.args.marks.now =
    c.min-n.ensures ∙ least _ _ _ _ _ c.min.ensures c.min-2.ensures c.min-3.ensures (ap (λ (n : ℕ). n - c.args.first) c.count.ensures) in
    let e = handed in
    let f = rows_before _ (sheet-accepted _ _ none) in
    let n = number-below _ _ none in
    record {
      on_sheet = omega (arith, e, f, n);
      ids_fit = omega (arith, e);
      starts_fit = omega (arith, e);
      ends_fit = omega (arith, e);
      marks_fit = omega (arith, e);
    }

pub returns : goal.returns
returns c =
    let none : fetch_fault c.args.sheet.now c.args.first ≡ 0 = sym c.fetch_fault-fault.ensures ∙ c.if-fault-ne0.false in
    -- as many as there is room for
    let handed : c.min-n.result ≡ room c.args.sheet.now c.args.first c.args.ids.now c.args.starts.now c.args.ends.now c.args.marks.now =
    c.min-n.ensures ∙ least _ _ _ _ _ c.min.ensures c.min-2.ensures c.min-3.ensures (ap (λ (n : ℕ). n - c.args.first) c.count.ensures) in
    let f = c.fill.ensures in
    run-read _ _ _ _ _ _ none _ handed _ _ _ _ f.ids_are f.starts_are f.ends_are f.marks_are
