-- `source::marked::marked` meets its contract.
use native.Mathlib.Omega.{arith}
use Rattle.dates.specs.Inner.Dates.{kept_dates}
use Rattle.window.proofs.HandLaws.{handed-none}
use Rattle.source.proofs.MarkedLaws.{taken, marked-run, front_fits, front-size, marked-collects, marked-hands}
use Rattle.source.proofs.marked.marked.Goals as goal

pub returns-then-to-from : goal.returns-then-to-from
returns-then-to-from c = handed-none _ _ _ _ (omega (arith, c.if-to-from.true, c.requires.span.order))

pub slice_bounds-fill-end : goal.slice_bounds-fill-end
slice_bounds-fill-end c = taken _ _ c.days_at_once-k.ensures.few

pub fill-requires : goal.fill-requires
fill-requires c = let p = c.requires in
    let m = c.days_at_once-k.ensures in
    (p.whole, marked-run _ _ _ p.span m _ m.few)

pub slice_bounds-hits-end-2 : goal.slice_bounds-hits-end-2
slice_bounds-hits-end-2 c = let m = c.days_at_once-k.ensures in
    front_fits _ _ _ c.requires.span m _ c.fill.new.hits m.few c.fill.auto.hits

pub slice_bounds-collect_run-end : goal.slice_bounds-collect_run-end
slice_bounds-collect_run-end c = let m = c.days_at_once-k.ensures in
    front-size _ _ _ c.requires.span m _ c.fill.new.hits m.few c.fill.auto.hits

pub collect_run-requires : goal.collect_run-requires
collect_run-requires c = let p = c.requires in
    let m = c.days_at_once-k.ensures in
    marked-collects _ _ _ p.span m _ c.fill.new.hits m.few c.fill.auto.hits c.if-to-from.false _ c.chunk_end-end.ensures _ _ _ p.whole.overrides p.room

pub returns : goal.returns
returns c = let a = c.args in
    let m = c.days_at_once-k.ensures in
    marked-hands _ _ _ c.requires.span m _ c.fill.new.hits m.few c.fill.auto.hits c.if-to-from.false _ c.chunk_end-end.ensures
    (kept_dates a.dates a.rows.now a.ids.now a.gone.now) c.fill.ensures _ _ _ _ c.collect_run.ensures
