-- `track::leaps::leap` meets its contract.
use Rattle.track.proofs.StepLaws.{cursor-at-day, held-day}
use Rattle.track.specs.Inner.Steps.{cursor_at}
use Rattle.matcher.proofs.WalkLaws.{number_is, day-again}
use native.Mathlib.Omega.{arith}
use mathlib.Core.Path.{sym, ap, ◌∙◌}
use Prim.Native.Nat.{ℕ, ◌+◌}
use Rattle.track.proofs.leaps.leap.Goals as goal

pub advance-requires : goal.advance-requires
advance-requires c = c.requires.0

pub returns-then-k-eq1 : goal.returns-then-k-eq1
returns-then-k-eq1 c = let a = c.args in
    c.advance.ensures ∙ ap (λ (n : ℕ). cursor_at a.terms a.flags.now (a.c.day.number + n)) (sym c.if-k-eq1.true)

pub days_later-x-requires : goal.days_later-x-requires
days_later-x-requires c = let p = c.requires in
    (held-day _ _ _ p.0, (p.1.0, omega (arith, p.1.1)))

pub cursor_on-requires : goal.cursor_on-requires
cursor_on-requires c = let p = c.requires in
    let e = c.days_later-x.ensures in
    let at = number_is _ _ e in
    (day-again _ _ e, record { row_length = p.0.row_length; week = p.0.week; low = omega (arith, at, p.0.low); high = omega (arith, at, p.1.1) })

pub returns : goal.returns
returns c = c.cursor_on.ensures ∙ cursor-at-day _ _ _ _ c.days_later-x.ensures
