-- `fetch::single::fetch` meets its contract: refused, or the four numbers of the record.
use Prim.Native.Nat.{◌+◌, ◌*◌, ◌≤◌}
use lib.ListN.{length}
use mathlib.Core.Path.{sym, ◌∙◌}
use Rattle.signed.proofs.Parts.{back}
use Rattle.sheet.proofs.FetchLaws.{record-inside, fetch-refused, fetch-read}
use Rattle.fetch.proofs.single.fetch.Goals as goal
use Rattle.fetch.proofs.single.fetch.Goals.{Else-fault-ne0}

inside : (c : Else-fault-ne0) → 28 * c.args.number + 28 ≤ length c.args.sheet.now
inside c = record-inside _ _ (sym c.fetch_fault-fault.ensures ∙ c.if-fault-ne0.false)

pub returns-then-fault-ne0 : goal.returns-then-fault-ne0
returns-then-fault-ne0 c = fetch-refused _ _ _ c.fetch_fault-fault.ensures c.if-fault-ne0.true

pub id_at-requires : goal.id_at-requires
id_at-requires c = inside (goal.at.id_at-requires c).Else-fault-ne0

pub start_at-requires : goal.start_at-requires
start_at-requires c = inside (goal.at.start_at-requires c).Else-fault-ne0

pub end_at-requires : goal.end_at-requires
end_at-requires c = inside (goal.at.end_at-requires c).Else-fault-ne0

pub marks_at-requires : goal.marks_at-requires
marks_at-requires c = inside (goal.at.marks_at-requires c).Else-fault-ne0

pub returns : goal.returns
returns c = let i = c.id_at in
    let s = c.start_at in
    let e = c.end_at in
    fetch-read _ _ (sym c.fetch_fault-fault.ensures ∙ c.if-fault-ne0.false) _ _ _ _
    (back i.result i.type_inv ∙ i.ensures) (back s.result s.type_inv ∙ s.ensures) (back e.result e.type_inv ∙ e.ensures) c.marks_at.ensures
