-- `zone::range::ends_within` meets its contract: none is below the first and none above the last.
use Rattle.std.proofs.Common.{◌∙◌, ◌-◌, sym, get_or, length, pos, w64, arith, rules}
use mir.Val.{SFits}
use Rattle.signed.proofs.Parts.{passed}
use Rattle.zone.specs.Table.{within}
use Rattle.zone.proofs.OrderLaws.{ends-none, ends-one, ends-first, ends_last}
use Rattle.zone.proofs.range.ends_within.Goals as goal

pub returns-in-empty : goal.returns-in-empty
returns-in-empty c = ends-none _ c.args.s.now (omega (arith, c.in-empty.len_below))

pub returns-in-len1 : goal.returns-in-len1
returns-in-len1 c =
    let fits : SFits w64 (get_or c.args.s.now 0 (pos 0)) = search rules in
    passed (within c.args.k) fits c.within.ensures ∙ ends-one _ c.args.s.now (omega (arith, c.in-len1.len_at_least, c.in-len1.len_below))

pub returns-then-within : goal.returns-then-within
returns-then-within c =
    let fits : SFits w64 (get_or c.args.s.now 0 (pos 0)) = search rules in
    let fits-last : SFits w64 (get_or c.args.s.now (length c.args.s.now - 1) (pos 0)) = search rules in
    let first = passed (within c.args.k) fits c.within-in-len2-up.ensures in
    passed (within c.args.k) fits-last c.within-then-within.ensures
    ∙ ends_last _ c.args.s.now (λ e. omega (arith, c.in-len2-up.len_at_least)) c.requires (sym first ∙ c.if-within.true)

pub returns-else-within : goal.returns-else-within
returns-else-within c =
    let fits : SFits w64 (get_or c.args.s.now 0 (pos 0)) = search rules in
    let first = passed (within c.args.k) fits c.within-in-len2-up.ensures in
    c.if-within.false ∙ ends-first _ c.args.s.now (λ e. omega (arith, c.in-len2-up.len_at_least)) (sym first ∙ c.if-within.false)
