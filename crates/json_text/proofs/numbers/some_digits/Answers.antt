use Rattle.json_text.proofs.Laws.{some-digit}
use Rattle.std.proofs.Common.{◌≡◌, true, arith}
use Rattle.json_text.proofs.numbers.some_digits.Goals as goal

pub overflow_add-at : goal.overflow_add-at
overflow_add-at c =
    let found : c.is_digit.result ≡ true = grind arith in
    omega (arith, some-digit _ _ c.is_digit.ensures found)
