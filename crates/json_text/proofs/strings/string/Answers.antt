-- `string` meets its contract: what is left to read, from here on, stays what there was at the start. A turn is either a run of
-- plain bytes, which is stepped over at once, or one char.
use Rattle.std.proofs.Common.{◌≡◌, ◌+◌, ◌-◌, true, length, get_or, sym, ◌∙◌, arith, rules, eq-eqb, ne_eqb}
use Rattle.json_text.proofs.Ahead.{char-after, chars-enough, rest-run, rest-quote, rest-char, rest-wrong, rest-none}
use Rattle.json_text.proofs.Blocks.{plain-front}
use Rattle.json_text.proofs.Skip.{plain-some}
use Rattle.json_text.specs.Inner.Plain.{is_plain}
use Rattle.json_text.specs.Strings.{string_at}
use Rattle.json_text.proofs.strings.string.Goals as goal

pub loop-i-init : goal.loop-i-init
unfolding string_at
loop-i-init c = rw (
  ← c.byte.ensures.is,
  eq-eqb _ _ c.if-byte-ne34.false,
)
    (chars-enough (length c.args.text.now - (c.args.at + 1)) (length c.args.text.now) c.args.text.now (c.args.at + 1) (omega arith) (omega arith))

pub returns-then-byte-ne34 : goal.returns-then-byte-ne34
unfolding string_at
returns-then-byte-ne34 c = rw (
  ← c.byte.ensures.is,
  ne_eqb _ _ c.if-byte-ne34.true,
)

pub loop-i-smaller-then-is_plain : goal.loop-i-smaller-then-is_plain
loop-i-smaller-then-is_plain c =
    let here : is_plain (get_or c.args.text.now c.loop-i.i 0) ≡ true = rw (← c.byte-b.ensures.is, ← c.is_plain.ensures) c.if-is_plain.true in
    omega (arith, plain-some _ _ _ (plain-front _ _ _ c.plain-i.ensures c.loop-i-test.true here) c.loop-i-test.true here)

pub loop-i-preserved-then-is_plain : goal.loop-i-preserved-then-is_plain
loop-i-preserved-then-is_plain c =
    sym (rest-run _ _ _ c.loop-i-test.true (plain-front _ _ _ c.plain-i.ensures c.loop-i-test.true (rw (← c.byte-b.ensures.is, ← c.is_plain.ensures) c.if-is_plain.true)))
    ∙ c.loop-i.invariant

pub returns-then-b-eq34 : goal.returns-then-b-eq34
returns-then-b-eq34 c = rw (← c.loop-i.invariant) (sym (rest-quote _ _ c.loop-i-test.true (rw (← c.byte-b.ensures.is) (eq-eqb _ _ c.if-b-eq34.true))))

pub returns-in_err-i : goal.returns-in_err-i
returns-in_err-i c = rw (
  ← c.loop-i.invariant,
  rest-wrong _ _ _ c.loop-i-test.true (rw (← c.byte-b.ensures.is) (ne_eqb _ _ c.if-b-eq34.false)) (sym c.character.ensures ∙ c.in_err-i.was),
)
    (search rules)

pub loop-i-smaller : goal.loop-i-smaller
loop-i-smaller c = omega (arith, char-after _ _ _ (sym c.character.ensures ∙ c.in_ok-i.was))

pub loop-i-preserved : goal.loop-i-preserved
loop-i-preserved c = sym (rest-char _ _ _ c.loop-i-test.true (rw (← c.byte-b.ensures.is) (ne_eqb _ _ c.if-b-eq34.false)) (sym c.character.ensures ∙ c.in_ok-i.was)) ∙ c.loop-i.invariant

pub returns : goal.returns
returns c = rw (← c.loop-i.invariant) (sym (rest-none _ _ c.loop-i-test.false))
