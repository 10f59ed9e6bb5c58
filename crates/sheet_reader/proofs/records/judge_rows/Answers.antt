-- `sheet_reader::records::judge_rows` meets its contract: nothing is wrong, or three questions in the order of their numbers.
use mathlib.Core.Path.{sym, ◌∙◌}
use Rattle.sheet.specs.Reading.{fault_in_rows}
use Rattle.sheet_reader.proofs.GoodLaws.{good-rows}
use borrow.Author.Tests.{not-false, not-true}
use Rattle.sheet_reader.proofs.records.judge_rows.Goals as goal

pub returns-then-all_good : goal.returns-then-all_good
returns-then-all_good c = good-rows _ c.requires.1 _ _ c.requires.0 (sym c.all_good.ensures ∙ c.if-all_good.true)

pub returns-then-not-rising : goal.returns-then-not-rising
unfolding fault_in_rows
returns-then-not-rising c = rw (
  ← c.rising.ensures,
  not-true c.rising.result c.if-not-rising.true-raw,
)

pub returns-then-not-all_marked : goal.returns-then-not-all_marked
unfolding fault_in_rows
returns-then-not-all_marked c = rw (
  ← c.rising.ensures,
  not-false c.rising.result c.if-not-rising.false-raw,
  ← c.all_marked.ensures,
  not-true c.all_marked.result c.if-not-all_marked.true-raw,
)

pub returns-then-not-all_clear : goal.returns-then-not-all_clear
unfolding fault_in_rows
returns-then-not-all_clear c = rw (
  ← c.rising.ensures,
  not-false c.rising.result c.if-not-rising.false-raw,
  ← c.all_marked.ensures,
  not-false c.all_marked.result c.if-not-all_marked.false-raw,
  ← c.all_clear.ensures,
  not-true c.all_clear.result c.if-not-all_clear.true-raw,
)

pub returns : goal.returns
unfolding fault_in_rows
returns c = rw (
  ← c.rising.ensures,
  not-false c.rising.result c.if-not-rising.false-raw,
  ← c.all_marked.ensures,
  not-false c.all_marked.result c.if-not-all_marked.false-raw,
  ← c.all_clear.ensures,
  not-false c.all_clear.result c.if-not-all_clear.false-raw,
)
