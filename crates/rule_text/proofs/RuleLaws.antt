-- A rule from its parts.
use Rattle.std.specs.Prelude.{if◌then◌else◌, Some, None}
use Prim.Native.Nat.{ℕ, suc, ◌<◌}
use mathlib.Core.Bool.{Bool, true, false}
use mathlib.Core.List.{List, []}
use mathlib.Core.Option.{Option, none, some}
use mathlib.Core.Path.{◌≡◌, refl, sym, ap₂, ◌∙◌}
use native.Mathlib.Omega.{arith}
use lib.Dec.{eqb}
use lib.IntN.{ℤ}
use Rattle.fault.specs.Fault.{faults_at, first, First, a_fault}
use Rattle.fault.proofs.Laws.{fault-here, at_none}
use Rattle.json_text.specs.Bytes.{byte}
use Rattle.json_walk.specs.Strings.{same}
use Rattle.json_tree.specs.Tree.{Json, tree_at}
use Rattle.json_tree.proofs.Trees.{place-tree}
use Rattle.rule.specs.declared.Frequency.{Frequency}
use Rattle.rule.specs.declared.Frequency.TheVariants.{Daily, Weekly, Monthly, Yearly}
use Rattle.rule.specs.declared.End.{End}
use Rattle.rule.specs.declared.Rule.{Rule}
use Rattle.rule.specs.Written.{NDay, RecurrenceRule}
use Rattle.rule.specs.Inner.Read.{written, Sized}
use Rattle.keywords.specs.declared.Named.{Named}
use Rattle.keywords.specs.declared.Named.TheVariants.{Number, Wrong}
use Rattle.keywords.specs.Rules.{weekday_of}
use Rattle.json_text.specs.Ascii.{ascii}
use Rattle.event.specs.Reading.{Reading, faulty, optional, placed, entry, inside}
use Rattle.event.specs.Rules.{from_named, read_weekday, read_signed, read_month, read_nday, by_list, any_nth, nth_under, stand_in, rule_in, read_rule}
use Rattle.property.specs.Inner.From.{fields_in}
use Rattle.rule_text.specs.Inner.Members.{member_at}
use Rattle.rule_text.specs.Inner.Parts.{HeadRead, EndsRead, Collected, DaysCollected, nth_fault, joined, other_faults, RuleIn, RuleRead}
use Rattle.rule_text.proofs.JoinLaws.{rule-faults, no-faults}
use Rattle.rule_text.proofs.ListLaws.{object-is, object-not}
use Rattle.rule_text.proofs.WordLaws.{word_holds}

-- ---- weekdays

below-seven : (c : Bool) (a b : Named) → (from_named a).value < 7 → (from_named b).value < 7 → (from_named (if c then a else b)).value < 7
below-seven true a b p q = p
below-seven false a b p q = q

weekday-named : (raw : List ℕ) → (from_named (weekday_of raw)).value < 7
unfolding weekday_of
weekday-named raw = below-seven (same raw (ascii "mo")) (Number 0) _ (omega arith) (below-seven (same raw (ascii "tu")) (Number 1) _ (omega arith) (below-seven (same raw (ascii "we")) (Number 2) _ (omega arith) (below-seven (same raw (ascii "th")) (Number 3) _ (omega arith) (below-seven (same raw (ascii "fr")) (Number 4) _ (omega arith) (below-seven (same raw (ascii "sa")) (Number 5) _ (omega arith) (below-seven (same raw (ascii "su")) (Number 6) (Wrong 24) (omega arith) (omega arith)))))))

pub weekday-below : (v : Json) → (read_weekday v).value < 7
unfolding read_weekday
weekday-below v = word_holds (λ (r : Reading ℕ). r.value < 7) 0 (λ raw. from_named (weekday_of raw)) (omega arith) (omega arith) weekday-named v

pub first_below : (o : Option Json) → (optional 0 read_weekday o).value < 7
unfolding optional
first_below none = omega arith
first_below (some v) = weekday-below v

-- ---- joined

nth-where : (at : ℕ) (c : Bool) → first (if c then faults_at 7 at else []) ≡ (if c then Some (a_fault 7 at) else None)
unfolding first
nth-where at true = fault-here 7 at refl
nth-where at false = refl

nth-under : (at : ℕ) (f : Frequency) (l : List NDay) → first (nth_under at f l) ≡ nth_fault at f (any_nth l)
unfolding nth_under first
nth-under at Daily l = nth-where at (any_nth l)
nth-under at Weekly l = nth-where at (any_nth l)
nth-under at Monthly l = refl
nth-under at Yearly l = refl

pub nth-none : (at : ℕ) (f : Frequency) (b : Bool) → b ≡ false → None ≡ nth_fault at f b
nth-none at Daily b e = rw e
nth-none at Weekly b e = rw e
nth-none at Monthly b e = refl
nth-none at Yearly b e = refl

joined_same : {a1 b1 a2 b2 a3 b3 a4 b4 a5 b5 a6 b6 a7 b7 a8 b8 : First} → a1 ≡ b1 → a2 ≡ b2 → a3 ≡ b3 → a4 ≡ b4 → a5 ≡ b5 → a6 ≡ b6 → a7 ≡ b7 → a8 ≡ b8
    → joined a1 a2 a3 a4 a5 a6 a7 a8 ≡ joined b1 b2 b3 b4 b5 b6 b7 b8
joined_same p1 p2 p3 p4 p5 p6 p7 p8 = λ i. joined (p1 i) (p2 i) (p3 i) (p4 i) (p5 i) (p6 i) (p7 i) (p8 i)

same-rule : {f f2 : Frequency} {a a2 w w2 : ℕ} {d d2 : List NDay} {m m2 : List ℤ} {y y2 : List ℕ} {p p2 : List ℤ} {u u2 c c2 : Option ℕ}
    → f ≡ f2 → a ≡ a2 → w ≡ w2 → d ≡ d2 → m ≡ m2 → y ≡ y2 → p ≡ p2 → u ≡ u2 → c ≡ c2
    → ◌≡◌ {A = RecurrenceRule}
    (record { frequency = f; interval = a; first_day_of_week = w; by_day = d; by_month_day = m; by_month = y; by_set_position = p; until = u; count = c })
    (record { frequency = f2; interval = a2; first_day_of_week = w2; by_day = d2; by_month_day = m2; by_month = y2; by_set_position = p2; until = u2; count = c2 })
same-rule q1 q2 q3 q4 q5 q6 q7 q8 q9 =
    λ i. record { frequency = q1 i; interval = q2 i; first_day_of_week = q3 i; by_day = q4 i; by_month_day = q5 i; by_month = q6 i; by_set_position = q7 i; until = q8 i; count = q9 i }

module _ (s : List ℕ) (i : ℕ) {f : Frequency} {a w : ℕ} {ws : List ℕ} {zs : List ℤ} {dc : ℕ} {b : Bool} {ds : List ℤ} {mc : ℕ} {ms : List ℕ} {yc : ℕ} {ps : List ℤ} {pc : ℕ} {e : End} {n1 n2 n3 n4 n5 n6 n7 n8 n : First}
    (head : HeadRead s i f a w n1)
    (days : DaysCollected (λ l. by_list read_nday (member_at (suc (suc l)) s i (ascii "byDay"))) ws zs dc b n2)
    (dates : Collected (λ l. by_list (entry (read_signed 31)) (member_at (suc l) s i (ascii "byMonthDay"))) ds mc n3)
    (months : Collected (λ l. by_list (entry read_month) (member_at (suc l) s i (ascii "byMonth"))) ms yc n4)
    (positions : Collected (λ l. by_list (entry (read_signed 366)) (member_at (suc l) s i (ascii "bySetPosition"))) ps pc n5)
    (ends : EndsRead s i e n6) (nth : n7 ≡ nth_fault i f b) (other : (l : ℕ) → n8 ≡ first (other_faults l s i)) (all : n ≡ joined n1 n2 n3 n4 n5 n6 n7 n8) where
  abbrev made : Rule
  made =
      record {
        frequency = f;
        interval = a;
        first = w;
        weekdays = ws;
        nths = zs;
        days = dc;
        dates = ds;
        datecount = mc;
        months = ms;
        monthcount = yc;
        positions = ps;
        positioncount = pc;
        end = e;
      }

  fault-made : (l : ℕ) → n ≡ first (rule_in i (fields_in (suc (suc l)) s i)).faults
  unfolding rule_in
  fault-made l =
      all
      ∙ joined_same (head.fault (suc (suc l))) (days.fault l) (dates.fault (suc l)) (months.fault (suc l)) (positions.fault (suc l)) (ends.fault (suc (suc l)))
      (nth ∙ ap₂ (nth_fault i) (head.frequency (suc (suc l))) (days.any l) ∙ sym (nth-under i _ _)) (other (suc (suc l)))
      ∙ sym (rule-faults _ _ _ _ _ _ _ _ _ _ _ _ _ _ _)

  value_made : n ≡ None → (l : ℕ) → written made ≡ (rule_in i (fields_in (suc (suc l)) s i)).value
  unfolding rule_in written
  value_made z l =
      let no = no-faults n1 n2 n3 n4 n5 n6 n7 n8 (sym all ∙ z) in
      same-rule (head.frequency (suc (suc l))) (head.interval (suc (suc l))) (head.week (suc (suc l))) (days.value no.days l) (dates.value no.dates (suc l))
      (months.value no.months (suc l)) (positions.value no.positions (suc l)) (ends.until no.ends (suc (suc l))) (ends.count no.ends (suc (suc l)))

  sized-made : n ≡ None → Sized made
  unfolding placed
  sized-made z =
      let no = no-faults n1 n2 n3 n4 n5 n6 n7 n8 (sym all ∙ z) in
      record {
        weekdays = days.weekdays no.days;
        nths = days.nths no.days;
        dates = dates.within no.dates;
        months = months.within no.months;
        positions = positions.within no.positions;
        week = rw (head.week 0) (first_below _);
      }

  pub rule-made : RuleIn s i made n
  rule-made = record { fault = fault-made; value = value_made; sized = sized-made }

-- ---- a rule at its place

module _ (s : List ℕ) (i : ℕ) where
  rule-is : eqb (byte s i) 0x7B ≡ true → (l : ℕ) → read_rule (tree_at (suc (suc (suc l))) s i) ≡ rule_in i (fields_in (suc (suc l)) s i)
  unfolding read_rule inside
  rule-is e l = rw (place-tree (suc (suc (suc l))) s i, object-is (suc (suc l)) s i e)

  rule-not : eqb (byte s i) 0x7B ≡ false → (l : ℕ) → read_rule (tree_at (suc (suc (suc l))) s i) ≡ faulty stand_in 20 i
  unfolding read_rule inside
  rule-not e l = rw (place-tree (suc (suc (suc l))) s i, object-not (suc (suc l)) s i e)

  pub rule-read : {r : Rule} {n : First} → eqb (byte s i) 0x7B ≡ true → RuleIn s i r n → RuleRead s i r n
  rule-read e h =
      record {
        fault = λ l. rw (rule-is e l) (h.fault l);
        value = λ z l. rw (rule-is e l) (h.value z l);
        sized = h.sized;
      }

  pub rule-absent : {r : Rule} → eqb (byte s i) 0x7B ≡ false → written r ≡ stand_in → RuleRead s i r (Some (a_fault 20 i))
  rule-absent e h =
      record {
        fault = λ l. rw (rule-not e l) (sym (fault-here 20 i refl));
        value = λ z l. rw (rule-not e l) h;
        sized = λ z. absurd (at_none 20 i z);
      }
