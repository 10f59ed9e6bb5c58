-- `loading::rules::load_places` meets its contract: each turn settles one rule more.
use mathlib.Core.Path.{sym, ◌∙◌}
use Rattle.loading.proofs.RuleLaws.{loading-starts, room, sized, loading-goes-on, loading-ends}
use Rattle.loading.proofs.rules.load_places.Goals as goal

pub loop-at-init : goal.loop-at-init
loop-at-init c = loading-starts c.args.excluded c.args.start c.args.limit c.args.text.now c.args.places.now _ _ c.no_tracks-tracks.ensures.0 c.no_tracks-tracks.ensures.1 c.requires.room

pub load-tracks-requires : goal.load-tracks-requires
load-tracks-requires c = let w = c.loop-at in
    let r = c.read_rule-read in (
      sized c.args.excluded c.args.start c.args.limit c.args.text.now c.args.places.now c.requires.season c.requires.fine _ _ _ w.invariant c.loop-at-test.true _ _ r.ensures,
      room c.args.excluded c.args.start c.args.limit c.args.text.now c.args.places.now c.requires.season c.requires.fine _ _ _ w.invariant c.loop-at-test.true,
    )

pub loop-at-preserved : goal.loop-at-preserved
loop-at-preserved c = let w = c.loop-at in
    let r = c.read_rule-read in
    loading-goes-on c.args.excluded c.args.start c.args.limit c.args.text.now c.args.places.now c.requires.season c.requires.fine _ _ _ w.invariant c.loop-at-test.true _ _ r.ensures _ _
    c.load-tracks.auto.flags c.load-tracks.ensures

pub shape_of-flags : goal.shape_of-flags
shape_of-flags c = c.loop-at.invariant.rows ∙ sym c.requires.room

pub returns : goal.returns
returns c = let w = c.loop-at in
    loading-ends c.args.excluded c.args.start c.args.limit c.args.text.now c.args.places.now _ _ _ w.invariant c.loop-at-test.false
