-- `track::alike::has_all_weekdays` meets its contract.
use borrow.Author.Rules.{rules}
use borrow.Author.Tests.{tests}
use mathlib.Core.Bool.{Bool}
use lib.ListN.{take, drop}
use Rattle.std.proofs.lemmas.Iterator.{YieldsList-from_slice}
use Rattle.std.proofs.lemmas.Iterator.Search.{all_from_yields_List}
use Rattle.track.proofs.AlikeLaws.{weekdays-said, weekdays-all}
use Rattle.track.proofs.alike.has_all_weekdays.Goals as goal

pub returns : goal.returns
returns c =
    let is = all_from_yields_List (λ (b : Bool). b) _ _ c.all.result c.all.ensures.ran (YieldsList-from_slice (take 7 (drop 77 c.args.flags.now)) cc) (λ x b q k. search (rules, tests)) in
    (weekdays-said _ c.requires _ is, weekdays-all _ c.requires _ is)
