-- `replay::refusals::refusal` meets its contract: four questions, in the order of their numbers.
use mathlib.Core.Bool.{true}
use mathlib.Core.Path.{◌≡◌, sym, ◌∙◌}
use borrow.Author.Tests.{eq-eqb, ne_eqb, le-leb, lt-leb}
use Rattle.weeks.specs.Weeks.{weeks_in}
use Rattle.weeks.specs.Replay.{is_range, refusal}
use Rattle.replay.proofs.RangeLaws.{both-passed}
use Rattle.replay.proofs.refusals.refusal.Goals as goal
use Rattle.replay.proofs.refusals.refusal.Goals.{After-is_range, Else-not-is_range, After-weeks_in}

range : (c : After-is_range) → c.is_range.result ≡ is_range c.args.from c.args.to
range c = both-passed is_range c.ranges.from c.ranges.to c.is_range.ensures

is : (c : Else-not-is_range) → is_range c.args.from c.args.to ≡ true
is c = sym (both-passed is_range c.ranges.from c.ranges.to c.is_range.ensures) ∙ c.if-not-is_range.false

weeks : (c : After-weeks_in) → c.weeks_in.result ≡ weeks_in c.args.from c.args.to
weeks c = both-passed weeks_in c.ranges.from c.ranges.to c.weeks_in.ensures

pub returns-then-not-in_order : goal.returns-then-not-in_order
unfolding refusal
returns-then-not-in_order c = rw (← c.in_order.ensures, c.if-not-in_order.true)

pub returns-then-not-is_range : goal.returns-then-not-is_range
unfolding refusal
returns-then-not-is_range c = rw (← c.in_order.ensures, c.if-not-in_order.false, ← range (goal.at.returns-then-not-is_range c).After-is_range, c.if-not-is_range.true)

pub returns-then-judge-ne0 : goal.returns-then-judge-ne0
unfolding refusal
returns-then-judge-ne0 c = rw (
  ← c.in_order.ensures,
  c.if-not-in_order.false,
  is (goal.at.returns-then-judge-ne0 c).Else-not-is_range,
  ← c.judge.ensures,
  ne_eqb _ _ c.if-judge-ne0.true,
)

pub returns-then-room-weeks_in : goal.returns-then-room-weeks_in
unfolding refusal
returns-then-room-weeks_in c = rw (
  ← c.in_order.ensures,
  c.if-not-in_order.false,
  is (goal.at.returns-then-room-weeks_in c).Else-not-is_range,
  ← c.judge.ensures,
  eq-eqb _ _ c.if-judge-ne0.false,
  ← weeks (goal.at.returns-then-room-weeks_in c).After-weeks_in,
  lt-leb _ _ c.if-room-weeks_in.true,
)

pub returns : goal.returns
unfolding refusal
returns c = rw (
  ← c.in_order.ensures,
  c.if-not-in_order.false,
  is (goal.at.returns c).Else-not-is_range,
  ← c.judge.ensures,
  eq-eqb _ _ c.if-judge-ne0.false,
  ← weeks (goal.at.returns c).After-weeks_in,
  le-leb _ _ c.if-room-weeks_in.false,
)
