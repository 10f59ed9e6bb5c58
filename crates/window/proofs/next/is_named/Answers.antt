-- `window::next::is_named` meets its contract.
use Rattle.std.proofs.Common.{ℕ, Bool, ◌&&◌, eqb, rules, ◌∙◌}
use borrow.Author.Tests.{tests}
use Rattle.std.proofs.lemmas.Iterator.{YieldsList-from_slice, YieldsList-from_zip}
use Rattle.std.proofs.lemmas.Iterator.Search.{any_from_yields_List}
use Rattle.dates.specs.Inner.Overrides.{counts}
use Rattle.window.proofs.OverrideLaws.{named-any}
use Rattle.window.proofs.next.is_named.Goals as goal

pub returns : goal.returns
returns c =
    let a = c.args in
    any_from_yields_List (λ (p : ℕ × Bool). counts a.only p.1 && eqb p.0 a.x) c.any.new.self _ _ c.any.ensures.ran
    (YieldsList-from_zip {s = c.zip.result} (YieldsList-from_slice a.ids.now (search rules)) (YieldsList-from_slice a.gone.now (search rules))) (λ p b f k. search (rules, tests))
    ∙ named-any _ _ _ _
