use borrow.Author.Tests.{le-ltb, lt-ltb, not-false, not-true}
use borrow.Author.Rules.{rules}
use Rattle.json_strict.specs.Answer.{answer_of, read_answer}
use Rattle.json_strict.proofs.Free.{paired-answer}
use Rattle.json_strict.proofs.answer.judge.Goals as goal

pub returns-then-text-gt-LIMIT : goal.returns-then-text-gt-LIMIT
unfolding answer_of read_answer
returns-then-text-gt-LIMIT c = record { is = rw (lt-ltb _ _ c.if-text-gt-LIMIT.true); ends = search rules }

pub returns-then-not-paired : goal.returns-then-not-paired
unfolding answer_of read_answer
returns-then-not-paired c = record {
  is = rw (
    le-ltb _ _ c.if-text-gt-LIMIT.false,
    ← c.whole.ensures.is,
    c.in-Ok.is,
    paired-answer,
    ← c.paired.ensures,
    not-true c.paired.result c.if-not-paired.true-raw,
  );
  ends = search rules;
}

pub returns-then-text_fault : goal.returns-then-text_fault
unfolding answer_of read_answer
returns-then-text_fault c = record {
  is = rw (
    le-ltb _ _ c.if-text-gt-LIMIT.false,
    ← c.whole.ensures.is,
    c.in-Ok.is,
    paired-answer,
    ← c.paired.ensures,
    not-false c.paired.result c.if-not-paired.false-raw,
    ← c.text_fault.ensures,
    c.if-text_fault.true,
  );
  ends = search rules;
}

pub returns-else-text_fault : goal.returns-else-text_fault
unfolding answer_of read_answer
returns-else-text_fault c = record {
  is = rw (
    le-ltb _ _ c.if-text-gt-LIMIT.false,
    ← c.whole.ensures.is,
    c.in-Ok.is,
    paired-answer,
    ← c.paired.ensures,
    not-false c.paired.result c.if-not-paired.false-raw,
    ← c.text_fault.ensures,
    c.if-text_fault.false,
  );
  ends = search rules;
}

pub returns-in-Err-Malformed : goal.returns-in-Err-Malformed
unfolding answer_of read_answer
returns-in-Err-Malformed c = record {
  is = rw (
    le-ltb _ _ c.if-text-gt-LIMIT.false,
    ← c.whole.ensures.is,
    c.in-Err-Malformed.is,
    c.in-Err-Malformed.field-0-is,
  );
  ends = search rules;
}

pub returns-in-Err-TooDeep : goal.returns-in-Err-TooDeep
unfolding answer_of read_answer
returns-in-Err-TooDeep c = record {
  is = rw (
    le-ltb _ _ c.if-text-gt-LIMIT.false,
    ← c.whole.ensures.is,
    c.in-Err-TooDeep.is,
    c.in-Err-TooDeep.field-0-is,
  );
  ends = search rules;
}
