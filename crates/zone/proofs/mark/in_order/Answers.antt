-- `zone::mark::in_order` meets its contract. The loop's invariant: the answer from here on is the whole answer.
use Rattle.std.proofs.Common.{◌≡◌, ◌+◌, ◌<◌, ◌++◌, ◌∷◌, [], length, get_or, ℕ, ℤ, pos, w64, to_z, rules, arith, List}
use mir.Val.{SFits}
use Rattle.std.proofs.lemmas.List.{length-append}
use Rattle.std.proofs.lemmas.Slice.Zip.{zip_turn, zip_end}
use Rattle.zone.proofs.PassLaws.{Pass}
use Rattle.zone.proofs.Machine.{Turn, turn-start, turn-wide, turn, turn_end}
use Rattle.zone.proofs.mark.in_order.Goals as goal

pub loop-instant-init : goal.loop-instant-init
loop-instant-init c = turn-start _ c.args.instants.now c.args.offsets.now c.ranges.initial c.requires.instants_value c.requires.initial_value

pub returns-then-not-within : goal.returns-then-not-within
returns-then-not-within c =
    let i = length c.loop-instant.yielded in
    let here = zip_turn c.args.instants.now c.args.offsets.now c.loop-instant.yielded
    c.into_iter-instant-iterator.result c.loop-instant.instant-iterator c.next.new.self c.next.result
    (search rules) (search rules) c.loop-instant.yielded_by (c.in-Some.instant, c.in-Some.after) c.in-Some.is c.next.ensures.steps in
    let fits : SFits w64 (get_or c.args.offsets.now i (pos 0)) = search rules in
    turn-wide _ c.args.instants.now c.args.offsets.now c.ranges.initial c.requires.instants_len _ _ _ c.loop-instant.invariant
    here.0 fits _ (rw (here.3 (pos 0)) at c.within.ensures) c.if-not-within.true

-- the turn, once the larger offset is found
module _ (c : goal.After-larger) where
  abbrev i : ℕ
  i = length c.loop-instant.yielded

  here : (i < length c.args.instants.now) × (i < length c.args.offsets.now)
      × ((d : ℤ) → c.in-Some.instant.now ≡ get_or c.args.instants.now i d) × ((d : ℤ) → c.in-Some.after.now ≡ get_or c.args.offsets.now i d)
  here =
      zip_turn c.args.instants.now c.args.offsets.now c.loop-instant.yielded
      c.into_iter-instant-iterator.result c.loop-instant.instant-iterator c.next.new.self c.next.result
      (search rules) (search rules) c.loop-instant.yielded_by (c.in-Some.instant, c.in-Some.after) c.in-Some.is c.next.ensures.steps

  after-fits : SFits w64 (get_or c.args.offsets.now i (pos 0))
  after-fits = let at-i = here in search rules

  instant-fits : SFits w64 (get_or c.args.instants.now i (pos 0))
  instant-fits = let at-i = here in search rules

  turned : Turn c.args.initial c.args.instants.now c.args.offsets.now (to_z w64 c.loop-instant.before-bits) (to_z w64 c.loop-instant.last-bits) i c.larger.result
  turned =
      turn _ c.args.instants.now c.args.offsets.now c.ranges.initial c.requires.instants_len _ _ _ c.loop-instant.invariant
      here.0 after-fits _ (rw (here.3 (pos 0)) at c.within.ensures) c.if-not-within.false c.requires.instants_value instant-fits
      _ c.larger.type_inv (rw (here.3 (pos 0)) at c.larger.ensures)

  longer : {b before last : ℤ} {ts ns : List ℤ} → Pass b ts ns before last (i + 1)
      → Pass b ts ns before last (length (c.loop-instant.yielded ++ (c.in-Some.instant, c.in-Some.after) ∷ []))
  longer w = rw (length-append c.loop-instant.yielded ((c.in-Some.instant, c.in-Some.after) ∷ [])) w

pub overflow_add-next : goal.overflow_add-next
overflow_add-next c = rw ((here c).2 (pos 0)) (turned c).fits

pub returns-then-next-last : goal.returns-then-next-last
returns-then-next-last c = (turned c.before).down (rw ((here c.before).2 (pos 0)) at c.if-next-last.true)

pub loop-instant-preserved : goal.loop-instant-preserved
loop-instant-preserved c =
    let w = c.before.before in
    let next = (turned w).next (rw ((here w).2 (pos 0)) at c.if-next-last.false) in
    longer w (rw (← (here w).2 (pos 0), ← (here w).3 (pos 0)) at next)

pub returns : goal.returns
returns c =
    let e = zip_end c.args.instants.now c.args.offsets.now c.loop-instant.yielded
    c.into_iter-instant-iterator.result c.loop-instant.instant-iterator c.next.new.self c.next.result
    (search rules) (search rules) c.loop-instant.yielded_by c.in-None.is c.next.ensures.steps in
    turn_end _ c.args.instants.now c.args.offsets.now c.ranges.initial c.requires.instants_len _ _ _ c.loop-instant.invariant (omega (arith, e, c.requires.instants_len))
