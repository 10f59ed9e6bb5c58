-- `zone::valid` meets its contract: the code asks the definition's conditions one by one. The order of the instants comes before their
-- range, which is then told by the ends.
use Rattle.std.proofs.Common.{◌≡◌, ◌∙◌, ◌&&◌, length, refl, sym, ap, Bool}
use lib.Dec.{leb, eqb}
use borrow.Author.Tests.{le-leb, lt-leb}
use Rattle.signed.proofs.Parts.{passed, true-false}
use Rattle.zone.specs.Table.{within, all_within, increasing}
use Rattle.zone.proofs.PassLaws.{both, asked, and-then, and-else}
use Rattle.zone.proofs.valid.Goals as goal
use Rattle.zone.proofs.valid.Goals.{then-instants-le1024, else-instants-le1024, then-instants-offsets, else-instants-offsets, then-increasing, else-increasing, then-ends_within, else-ends_within}

module _ (c : goal.After-in_order) where
  then-lengths : c.if-instants-le1024.t-8 ≡ leb (length c.args.instants.now) 1024 && eqb (length c.args.instants.now) (length c.args.offsets.now)
  then-lengths = elim c.if-instants-le1024.branch [
    | then-instants-le1024 w ↦ and-then (le-leb _ _ w.if-instants-le1024.true) w.t-8-is
    | else-instants-le1024 w ↦ and-else _ (lt-leb _ _ w.if-instants-le1024.false) w.t-8-is
  ]

  then-order : c.if-instants-offsets.value ≡ c.if-instants-le1024.t-8 && increasing c.args.instants.now
  then-order = elim c.if-instants-offsets.branch [
    | then-instants-offsets w ↦ and-then w.if-instants-offsets.true-raw (w.value-is ∙ w.increasing.ensures)
    | else-instants-offsets w ↦ and-else _ w.if-instants-offsets.false-raw w.value-is
  ]

  then-range : c.if-increasing.value ≡ c.if-instants-offsets.value && all_within 1099511627776 c.args.instants.now
  then-range = elim c.if-increasing.branch [
    | then-increasing w ↦ and-then w.if-increasing.true (w.value-is ∙ w.ends_within.ensures)
    | else-increasing w ↦ and-else _ w.if-increasing.false w.value-is
  ]

  then-initial : c.if-ends_within.value ≡ c.if-increasing.value && within 86399 c.args.initial
  then-initial = elim c.if-ends_within.branch [
    | then-ends_within w ↦ and-then w.if-ends_within.true (w.value-is ∙ passed (within 86399) c.ranges.initial w.within.ensures)
    | else-ends_within w ↦ and-else _ w.if-ends_within.false w.value-is
  ]

module _ (c : goal.Else-within) where
  else-lengths : c.if-instants-le1024.t-8 ≡ leb (length c.args.instants.now) 1024 && eqb (length c.args.instants.now) (length c.args.offsets.now)
  else-lengths = elim c.if-instants-le1024.branch [
    | then-instants-le1024 w ↦ and-then (le-leb _ _ w.if-instants-le1024.true) w.t-8-is
    | else-instants-le1024 w ↦ and-else _ (lt-leb _ _ w.if-instants-le1024.false) w.t-8-is
  ]

  else-order : c.if-instants-offsets.value ≡ c.if-instants-le1024.t-8 && increasing c.args.instants.now
  else-order = elim c.if-instants-offsets.branch [
    | then-instants-offsets w ↦ and-then w.if-instants-offsets.true-raw (w.value-is ∙ w.increasing.ensures)
    | else-instants-offsets w ↦ and-else _ w.if-instants-offsets.false-raw w.value-is
  ]

  else-range : c.if-increasing.value ≡ c.if-instants-offsets.value && all_within 1099511627776 c.args.instants.now
  else-range = elim c.if-increasing.branch [
    | then-increasing w ↦ and-then w.if-increasing.true (w.value-is ∙ w.ends_within.ensures)
    | else-increasing w ↦ and-else _ w.if-increasing.false w.value-is
  ]

  else-initial : c.if-ends_within.value ≡ c.if-increasing.value && within 86399 c.args.initial
  else-initial = elim c.if-ends_within.branch [
    | then-ends_within w ↦ and-then w.if-ends_within.true (w.value-is ∙ passed (within 86399) c.ranges.initial w.within.ensures)
    | else-ends_within w ↦ and-else _ w.if-ends_within.false w.value-is
  ]

pub returns-then-within : goal.returns-then-within
returns-then-within c =
    asked c.args.initial c.args.instants.now c.args.offsets.now c.if-ends_within.value c.in_order.result
    (then-initial c
    ∙ ap (λ (t : Bool). t && within 86399 c.args.initial)
    (then-range c
    ∙ ap (λ (t : Bool). t && all_within 1099511627776 c.args.instants.now)
    (then-order c ∙ ap (λ (t : Bool). t && increasing c.args.instants.now) (then-lengths c))))
    (λ t. passed (λ z. both z c.args.instants.now c.args.offsets.now) c.ranges.initial c.in_order.ensures)
    (λ f. true-false (sym c.if-within.true ∙ f))

pub returns-else-within : goal.returns-else-within
returns-else-within c =
    asked c.args.initial c.args.instants.now c.args.offsets.now c.if-ends_within.value c.if-ends_within.value
    (else-initial c
    ∙ ap (λ (t : Bool). t && within 86399 c.args.initial)
    (else-range c
    ∙ ap (λ (t : Bool). t && all_within 1099511627776 c.args.instants.now)
    (else-order c ∙ ap (λ (t : Bool). t && increasing c.args.instants.now) (else-lengths c))))
    (λ t. true-false (sym t ∙ c.if-within.false))
    (λ f. refl)
