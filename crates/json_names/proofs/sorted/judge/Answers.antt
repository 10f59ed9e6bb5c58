use Rattle.std.proofs.Common.{◌≡◌, true, ◌+◌, ◌≤◌, sym, arith}
use Rattle.json_names.proofs.Sorting.{distinct}
use Rattle.json_names.proofs.sorted.judge.Goals as goal

pub returns-else-not-covered : goal.returns-else-not-covered
returns-else-not-covered c =
    let q : c.args.k ≤ c.args.r + 1 = omega arith in
    let all : c.covered.result ≡ true = grind arith in
    rw all (sym (distinct _ _ c.args.r c.args.k c.requires.1 q _ _ (c.covered.ensures all)))
