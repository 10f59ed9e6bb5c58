-- `replay::uploads::upload_all` meets its contract: the uploads from here on are still to be counted, and no place holds more than those before.
use Prim.Native.Nat.{◌+◌}
use mathlib.Core.Path.{◌≡◌, sym, ap, ◌∙◌}
use mathlib.Core.List.{List}
use lib.IntN.{ℤ, pos}
use lib.ListN.{get_or, drop}
use mir.Syntax.{w64}
use mir.Val.{SFits}
use borrow.Author.Rules.{rules}
use Rattle.signed.proofs.Parts.{passed}
use Rattle.weeks.specs.Inner.Places.{upload, upload_all}
use Rattle.replay.proofs.UploadLoops.{uploads-turn, uploads-done, upload-below}
use Rattle.replay.proofs.uploads.upload_all.Goals as goal

pub loop-t-preserved : goal.loop-t-preserved
loop-t-preserved c =
    let l = c.loop-t in
    let a = c.args in
    let t = get_or a.log.now l.t-index (pos 0) in
    let f : SFits w64 t = search rules in
    let u : c.upload.new.p ≡ upload a.b l.p t = passed (upload a.b l.p) f c.upload.ensures in (
      rw u (upload-below l.t-index a.b l.p t l.invariant.0),
      ap (λ (q : List ℤ). upload_all a.b (drop (l.t-index + 1) a.log.now) q) u ∙ (uploads-turn a.b a.log.now l.t-index l.p c.loop-t-test.true ∙ l.invariant.1),
    )

pub returns : goal.returns
returns c = let l = c.loop-t in sym (uploads-done c.args.b c.args.log.now l.t-index l.p c.loop-t-test.false) ∙ l.invariant.1
