-- `dates::load::settle_row` meets its contract.
use Rattle.track.specs.Inner.Settle.{cleared, SettledBy}
use mathlib.Core.Path.{subst}
use mathlib.Core.List.{List}
use mathlib.Core.Bool.{Bool}
use Rattle.dates.proofs.load.settle_row.Goals as goal

pub returns : goal.returns
unfolding cleared
returns c = subst (λ (row : List Bool). SettledBy c.args.excluded c.args.rule c.args.start c.args.limit row c.settle.new.row c.settle.result) (c.fill.ensures.after (λ y same. same)) c.settle.ensures
