-- `replay::uploads::upload` meets its contract: before the range and after it nothing changes.
use mathlib.Core.Path.{◌≡◌, ◌∙◌}
use lib.IntN.{pos}
use lib.ListN.{get_or}
use mir.Syntax.{w64}
use mir.Val.{SFits, to_z, of_z}
use borrow.Author.Rules.{rules}
use Rattle.signed.proofs.Parts.{back, passed}
use Rattle.weeks.specs.Inner.Marks.{up}
use Rattle.weeks.specs.Inner.Places.{bump}
use Rattle.replay.proofs.UploadLoops.{upload-before, upload-in, upload-past}
use Rattle.replay.proofs.uploads.upload.Goals as goal

pub returns-then-x-b : goal.returns-then-x-b
returns-then-x-b c = upload-before _ _ _ _ (passed (λ z. up z) c.ranges.t c.up-x.ensures) c.if-x-b.true

pub returns-then-w-p : goal.returns-then-w-p
returns-then-w-p c = let w = c.first_of-w.result in
    let f : SFits w64 (get_or c.args.p.now w (pos 0)) = search rules in
    let v : to_z w64 (of_z w64 c.bump.result) ≡ bump (get_or c.args.p.now w (pos 0)) = back c.bump.result c.bump.type_inv ∙ passed bump f c.bump.ensures in
    upload-in c.args.b c.args.p.now c.args.t c.up-x.result (passed (λ z. up z) c.ranges.t c.up-x.ensures) c.if-x-b.false w c.first_of-w.ensures.0 _ v

pub returns-else-w-p : goal.returns-else-w-p
returns-else-w-p c = upload-past _ _ _ _ (passed (λ z. up z) c.ranges.t c.up-x.ensures) c.if-x-b.false _ c.first_of-w.ensures.0 c.if-w-p.false
