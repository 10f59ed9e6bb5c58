-- Entries of `byDay`: a weekday, and a number for `nthOfPeriod`.
use Rattle.std.specs.Prelude.{if◌then◌else◌, Some, None}
use Prim.Native.Nat.{ℕ, zero, suc, ◌+◌, ◌<◌}
use mathlib.Core.Bool.{Bool, true, false, ◌||◌}
use mathlib.Core.List.{List, [], ◌∷◌, map}
use mathlib.Core.Option.{Option, none, some}
use mathlib.Core.Path.{◌≡◌, refl, sym, ◌∙◌}
use native.Mathlib.Omega.{arith}
use Rattle.std.proofs.Math.Nat.{sub-zero}
use lib.Dec.{eqb}
use lib.IntN.{ℤ, pos, negsuc}
use lib.ListN.{length}
use lib.Seq.{length-sets}
use borrow.Author.Tests.{lt-ltb}
use Rattle.fault.specs.Fault.{first, First, a_fault}
use Rattle.fault.proofs.Laws.{fault-here}
use Rattle.json_text.specs.Bytes.{byte}
use Rattle.rule.specs.Written.{NDay}
use Rattle.rule.specs.Inner.Read.{nth_from, ndays}
use Rattle.json_walk.specs.Walk.{next_element_at}
use Rattle.json_walk.specs.declared.Element.{Element}
use Rattle.std.specs.Prelude as std
use Rattle.json_tree.specs.Tree.{Json, Fields, tree_at, place_of}
use Rattle.json_tree.proofs.Trees.{place-tree}
use Rattle.event.specs.Values.{object}
use Rattle.event.specs.Reading.{Judged, fine, faulty, maybe, placed, inside, read_all}
use Rattle.event.specs.Rules.{any_nth, read_nth, nday_in, read_nday, entries_of}
use Rattle.property.specs.Inner.From.{fields_in}
use Rattle.rule_text.specs.Inner.Lists.{nth_number, is_some, day_of, nth_of, list_fault, DayReads, DayEntries}
use Rattle.rule_text.proofs.EntryLaws.{rest_of, all_of, Counting, Storing, rest-next, counting-ends, storing-ends}
use Rattle.rule_text.proofs.IntegerLaws.{nth_read}
use Rattle.rule_text.proofs.ListLaws.{object-is, object-not, entries-value, entries-fault}

-- ---- numbers for `nthOfPeriod`

pub number-from : (z : ℤ) → nth_number (nth_from z) ≡ z
unfolding nth_from
number-from (pos zero) = refl
number-from (pos (suc n)) = rw (lt-ltb 0 (suc n) (omega arith))
number-from (negsuc n) = rw (lt-ltb 0 (suc n) (omega arith))

pub any-more : (e : NDay) (l : List NDay) → any_nth (e ∷ l) ≡ (is_some e.nth_of_period || any_nth l)
unfolding any_nth
any-more e l = go e.nth_of_period
  where
    go : (o : Option ℤ) → any_nth (record { day = e.day; nth_of_period = o } ∷ l) ≡ (is_some o || any_nth l)
    go none = refl
    go (some z) = refl

pub is-some : (c : Bool) (z : ℤ) → c ≡ is_some (if c then some z else none)
is-some true z = refl
is-some false z = refl

pub or_assoc : (a b c : Bool) → (a || (b || c)) ≡ ((a || b) || c)
or_assoc true b c = refl
or_assoc false b c = refl

pub or-none : (a : Bool) → (a || false) ≡ a
or-none true = refl
or-none false = refl

-- Every entry that is read has a number that gives its `nthOfPeriod` back.
nth-back : (o : Option Json) → nth_from (nth_number (read_nth o).value) ≡ (read_nth o).value
unfolding read_nth maybe nth_from
nth-back none = refl
nth-back (some v) = nth_read 53 (omega arith) v

nday-back : (at : ℕ) (fields : Option Fields) → nth_from (nth_of (inside (record { day = 0; nth_of_period = none }) at (nday_in at) fields).value) ≡ (inside (record { day = 0; nth_of_period = none }) at (nday_in at) fields).value.nth_of_period
unfolding inside nday_in placed nth_from
nday-back at none = refl
nday-back at (some fields) = nth-back _

pub nday-nth : (v : Json) → nth_from (nth_of (read_nday v).value) ≡ (read_nday v).value.nth_of_period
unfolding read_nday
nday-nth v = nday-back (place_of v) (object v)

pub ndays-back : (vs : List Json) → ndays (map day_of (read_all read_nday vs).value) (map nth_of (read_all read_nday vs).value) ≡ (read_all read_nday vs).value
unfolding read_all ndays
ndays-back [] = refl
ndays-back (v ∷ vs) = rw (nday-nth v, ndays-back vs)

-- An entry that is an object, and one that is not.
module _ (s : List ℕ) (i : ℕ) where
  nday-is : eqb (byte s i) 0x7B ≡ true → (l : ℕ) → read_nday (tree_at (suc l) s i) ≡ nday_in i (fields_in l s i)
  unfolding read_nday inside
  nday-is e l = rw (place-tree (suc l) s i, object-is l s i e)

  nday-not : eqb (byte s i) 0x7B ≡ false → (l : ℕ) → read_nday (tree_at (suc l) s i) ≡ faulty (record { day = 0; nth_of_period = none }) 20 i
  unfolding read_nday inside
  nday-not e l = rw (place-tree (suc l) s i, object-not l s i e)

  pub nday-read : {w : ℕ} {z : ℤ} {n : First} → eqb (byte s i) 0x7B ≡ true → DayReads (λ l. nday_in i (fields_in l s i)) w z n → DayReads (λ l. read_nday (tree_at (suc l) s i)) w z n
  nday-read e h = record { day = λ l. rw (nday-is e l) (h.day l); nth = λ l. rw (nday-is e l) (h.nth l); fault = λ l. rw (nday-is e l) (h.fault l) }

  pub nday-wrong : eqb (byte s i) 0x7B ≡ false → DayReads (λ l. read_nday (tree_at (suc l) s i)) 0 (pos 0) (Some (a_fault 20 i))
  nday-wrong e = record { day = λ l. rw (nday-not e l); nth = λ l. rw (nday-not e l); fault = λ l. rw (nday-not e l) (sym (fault-here 20 i refl)) }

-- ---- whether some entry has one

-- The flag so far, and that of the rest, are that of all.
pub record Flagging (tree : ℕ → ℕ → Json) (s : List ℕ) (all : ℕ → Judged (List NDay)) (step : std.Option Element) (m : ℕ) (b : Bool) : Type 0 where
  pub any : (l : ℕ) → (b || any_nth (rest_of read_nday tree s step m l).value) ≡ any_nth (all l).value

pub flagging-starts : (tree : ℕ → ℕ → Json) (s : List ℕ) (step : std.Option Element) → Flagging tree s (λ l. all_of read_nday tree s step l) step 0 false
flagging-starts tree s step = record { any = λ l. rw sub-zero }

pub flagging-goes-on : (tree : ℕ → ℕ → Json) (s : List ℕ) (all : ℕ → Judged (List NDay)) {step next : std.Option Element} {e : Element} {m : ℕ} {a b : Bool} (z : ℤ) → step ≡ Some e → m < length s
    → Flagging tree s all step m a → next ≡ next_element_at s e.after → b ≡ (a || is_some (nth_from z)) → ((l : ℕ) → nth_from z ≡ (read_nday (tree l e.value)).value.nth_of_period)
    → Flagging tree s all next (m + 1) b
flagging-goes-on tree s all {step} {next} {e} {m} {a} {b} z p h c q w r = rw (q, w) (record { any = λ l. more l })
  where
    more : (l : ℕ) → ((a || is_some (nth_from z)) || any_nth (rest_of read_nday tree s (next_element_at s e.after) (m + 1) l).value) ≡ any_nth (all l).value
    more l =
        let v = (read_nday (tree l e.value)).value in
        let rest = (rest_of read_nday tree s (next_element_at s e.after) (m + 1) l).value in
        let k : (a || any_nth (rest_of read_nday tree s (Some e) m l).value) ≡ any_nth (all l).value = rw p at (c.any l) in
        let j : (a || any_nth (v ∷ rest)) ≡ any_nth (all l).value = rw (rest-next read_nday tree s m h e l) at k in
        rw (r l, ← or_assoc, ← any-more) j

pub flagging-ends : (tree : ℕ → ℕ → Json) (s : List ℕ) (all : ℕ → Judged (List NDay)) {step : std.Option Element} {m : ℕ} {b : Bool} → Flagging tree s all step m b
    → ((l : ℕ) → rest_of read_nday tree s step m l ≡ fine []) → (l : ℕ) → b ≡ any_nth (all l).value
unfolding any_nth
flagging-ends tree s all {step} {m} {b} c e l = sym (or-none b) ∙ (rw (e l) at (c.any l))

-- ---- the whole list

module _ (tree : ℕ → ℕ → Json) (s : List ℕ) (all : ℕ → Judged (List NDay)) where
  pub days-end : (ws ws2 : List ℕ) (zs zs2 : List ℤ) {step : std.Option Element} {m : ℕ} {k : First} {b : Bool} → Counting read_nday tree s all step m k → Storing day_of read_nday tree s all ws ws2 step m
      → Storing nth_of read_nday tree s all zs zs2 step m → Flagging tree s all step m b → ((l : ℕ) → rest_of read_nday tree s step m l ≡ fine [])
      → DayEntries all ws ws2 zs zs2 m b k
  days-end ws ws2 zs zs2 {step} {m} {k} {b} c d e g h =
      let p = counting-ends read_nday tree s all step m k c h in
      record {
        weekdays = storing-ends read_nday tree s all day_of ws ws2 step m d h;
        nths = storing-ends read_nday tree s all nth_of zs zs2 step m e h;
        count = p.0;
        any = flagging-ends tree s all g h;
        fault = p.1;
      }

pub days-same : {tree other : ℕ → Judged (List NDay)} {ws ws2 : List ℕ} {zs zs2 : List ℤ} {m : ℕ} {n : First} {b : Bool} → DayEntries other ws ws2 zs zs2 m b n → ((l : ℕ) → tree l ≡ other l)
    → DayEntries tree ws ws2 zs zs2 m b n
days-same h e =
    record {
      weekdays = λ l. rw (e l) (h.weekdays l);
      nths = λ l. rw (e l) (h.nths l);
      count = λ l. rw (e l) (h.count l);
      any = λ l. rw (e l) (h.any l);
      fault = λ l. rw (e l) (h.fault l);
    }

pub days-limited : (at : ℕ) (vs : ℕ → List Json) {ws ws2 : List ℕ} {zs zs2 : List ℤ} {m : ℕ} {n k : First} {b : Bool} → DayEntries (λ l. read_all read_nday (vs l)) ws ws2 zs zs2 m b n
    → k ≡ list_fault m at n → DayEntries (λ l. entries_of read_nday at (vs l)) ws ws2 zs zs2 m b k
days-limited at vs h e =
    record {
      weekdays = λ l. rw (entries-value read_nday at (vs l)) (h.weekdays l);
      nths = λ l. rw (entries-value read_nday at (vs l)) (h.nths l);
      count = λ l. rw (entries-value read_nday at (vs l)) (h.count l);
      any = λ l. rw (entries-value read_nday at (vs l)) (h.any l);
      fault = λ l. rw (entries-fault read_nday at (vs l), e, h.count l, h.fault l);
    }

pub days-absent : {ws : List ℕ} {zs : List ℤ} → DayEntries (λ l. fine []) ws ws zs zs 0 false None
unfolding any_nth first
days-absent = record { weekdays = λ l. refl; nths = λ l. refl; count = λ l. refl; any = λ l. refl; fault = λ l. refl }

pub days-wrong : {ws : List ℕ} {zs : List ℤ} {i : ℕ} → DayEntries (λ l. faulty [] 20 i) ws ws zs zs 0 false (Some (a_fault 20 i))
unfolding any_nth
days-wrong {ws} {zs} {i} = record { weekdays = λ l. refl; nths = λ l. refl; count = λ l. refl; any = λ l. refl; fault = λ l. sym (fault-here 20 i refl) }

module _ {tree : ℕ → Judged (List NDay)} {ws ws2 : List ℕ} {zs zs2 : List ℤ} {m : ℕ} {n : First} {b : Bool} (h : DayEntries tree ws ws2 zs zs2 m b n) where
  pub weekdays-length : length ws2 ≡ length ws
  weekdays-length = rw (h.weekdays 0) (length-sets ws 0 (map day_of (tree 0).value))

  pub nths-length : length zs2 ≡ length zs
  nths-length = rw (h.nths 0) (length-sets zs 0 (map nth_of (tree 0).value))
