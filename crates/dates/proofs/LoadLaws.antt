-- Rules that are loaded one after the other stand for the rules of an event.
use Prim.Native.Nat.{ℕ, zero, suc, ◌+◌, ◌*◌, ◌<◌, ◌≤◌}
use mathlib.Core.Bool.{Bool}
use mathlib.Core.List.{List, [], ◌∷◌, ◌++◌}
use mathlib.Core.Path.{◌≡◌, sym, ap, ◌∙◌, subst}
use native.Mathlib.Omega.{arith}
use native.Mathlib.Numerals.{add-one}
use lib.ListN.{length, take, drop, set, length-set}
use lib.Seq.{take_at, drop_at, length-take-le, take-suc-set, take-take, drop-drop, take-nil}
use Rattle.rule.specs.declared.Rule.{Rule}
use Rattle.rule.specs.Written.{RecurrenceRule}
use Rattle.rule.specs.Inner.Read.{written}
use Rattle.matcher.specs.Inner.Layout.{row_size}
use Rattle.track.specs.declared.Track.{Track}
use Rattle.track.specs.Inner.Settle.{cleared, SettledBy, Settled}
use Rattle.track.proofs.SettleLaws.{settled}
use Rattle.dates.specs.declared.Tracks.{Tracks}
use Rattle.dates.specs.Inner.Tracked.{Weeks, tracks_of, Tracked}
use Rattle.dates.specs.Inner.Load.{put, Loading, Added}
use Rattle.dates.specs.Inner.Stands.{Settles}

-- ---- a row that is lent and comes back

module _ (flags row rest : List Bool) (at : ℕ) (room : at ≤ length flags) where
  pub rows_kept : take at (take at flags ++ (row ++ rest)) ≡ take at flags
  rows_kept = take_at (take at flags) (row ++ rest) at (length-take-le at flags room)

  pub row_back : length row ≡ row_size → take row_size (drop at (take at flags ++ (row ++ rest))) ≡ row
  row_back size = rw (drop_at (take at flags) (row ++ rest) at (length-take-le at flags room)) (take_at row rest row_size size)

pub row-added : (excluded : Bool) (r : Rule) (start limit : ℕ) (ts next : Tracks) (before row rest : List Bool) (t : Track) (n : ℕ)
    → row_size * ts.count ≤ length before → n ≡ row_size → length row ≡ n → next ≡ put ts t → SettledBy excluded r start limit (cleared n) row t
    → Added excluded r start limit ts before (take (row_size * ts.count) before ++ (row ++ rest)) next
row-added excluded r start limit ts next before row rest t n room size same is s =
    record {
      track = t;
      list = is;
      kept = rows_kept before row rest (row_size * ts.count) room;
      settled =
          rw (row_back before row rest (row_size * ts.count) room (same ∙ size))
          (subst (λ (k : ℕ). SettledBy excluded r start limit (cleared k) row t) size s);
    }

-- ---- one more rule

-- the beginning of a list decides the beginning of what is left
drop-take : (n m : ℕ) (l : List Bool) → drop n (take (n + m) l) ≡ take m (drop n l)
drop-take zero m l =
    let none : 0 + m ≡ m = omega arith in
    rw none
drop-take (suc n) m [] =
    let all : take (suc n + m) [] ≡ [] = take-nil (suc n + m) in
    ap (drop (suc n)) all ∙ sym (take-nil m)
drop-take (suc n) m (x ∷ l) =
    let one : suc n + m ≡ suc (n + m) = omega arith in
    rw one (drop-take n m l)

module _ (excluded : Bool) (start limit : ℕ) where
  pub settles-more : (rs : List RecurrenceRule) (ts : List Track) (before after : List Bool) (r : RecurrenceRule) (t : Track)
      → Settles excluded start limit rs ts before → take (row_size * length ts) after ≡ take (row_size * length ts) before
      → Settled excluded start limit r (take row_size (drop (row_size * length ts) after)) t
      → Settles excluded start limit (rs ++ (r ∷ [])) (ts ++ (t ∷ [])) after
  settles-more [] [] before after r t s same new = (new, tt)
  settles-more [] (u ∷ ts) before after r t s same new = absurd s
  settles-more (q ∷ rs) [] before after r t s same new = absurd s
  settles-more (q ∷ rs) (u ∷ ts) before after r t s same new =
      let long : row_size * length (u ∷ ts) ≡ row_size + row_size * length ts = omega arith in
      let parts : take (row_size + row_size * length ts) after ≡ take (row_size + row_size * length ts) before = subst (λ (n : ℕ). take n after ≡ take n before) long same in
      let head : take row_size after ≡ take row_size before =
      sym (take-take row_size (row_size + row_size * length ts) after (omega arith)) ∙ (ap (take row_size) parts ∙ take-take row_size (row_size + row_size * length ts) before (omega arith))
      in
      let tail : take (row_size * length ts) (drop row_size after) ≡ take (row_size * length ts) (drop row_size before) =
      sym (drop-take row_size (row_size * length ts) after) ∙ (ap (drop row_size) parts ∙ drop-take row_size (row_size * length ts) before)
      in
      let place : drop (row_size * length (u ∷ ts)) after ≡ drop (row_size * length ts) (drop row_size after) =
      ap (λ (n : ℕ). drop n after) long ∙ sym (drop-drop (row_size * length ts) row_size after)
      in (
        subst (λ (row : List Bool). Settled excluded start limit q row u) (sym head) s.0,
        settles-more rs ts (drop row_size before) (drop row_size after) r t s.1 tail
            (subst (λ (l : List Bool). Settled excluded start limit r (take row_size l) t) place new),
      )

weeks-more : (ts : List Track) (t : Track) → Weeks ts → t.terms.first < 7 → Weeks (ts ++ (t ∷ []))
weeks-more [] t w h = (h, tt)
weeks-more (u ∷ ts) t w h = (w.0, weeks-more ts t w.1 h)

module _ (excluded : Bool) (r : Rule) (start limit : ℕ) (ts : Tracks) (before after : List Bool) (next : Tracks)
    (room : Loading ts.count (length ts.list) (length before) start limit) (same_length : length after ≡ length before)
    (a : Added excluded r start limit ts before after next) where
  added : Settled excluded start limit (written r) (take row_size (drop (row_size * ts.count) after)) a.track
  added = settled excluded r start limit _ a.track room.low room.within a.settled

  more : tracks_of next ≡ tracks_of ts ++ (a.track ∷ [])
  unfolding put
  more =
      ap tracks_of a.list
      ∙ (ap (λ (n : ℕ). take n (set ts.list ts.count a.track)) (add-one ts.count) ∙ take-suc-set ts.list ts.count a.track room.room)

  -- the rules loaded before, and this one after them
  pub loaded-settles : (rs : List RecurrenceRule) → Settles excluded start limit rs (tracks_of ts) before
      → Settles excluded start limit (rs ++ (written r ∷ [])) (tracks_of next) after
  loaded-settles rs s =
      let few = room.room in
      let size : length (tracks_of ts) ≡ ts.count = length-take-le ts.count ts.list (omega arith) in
      let kept : take (row_size * length (tracks_of ts)) after ≡ take (row_size * length (tracks_of ts)) before = rw size a.kept in
      let new : Settled excluded start limit (written r) (take row_size (drop (row_size * length (tracks_of ts)) after)) a.track = rw size added in
      rw more (settles-more excluded start limit rs (tracks_of ts) before after (written r) a.track s kept new)

  pub loaded-tracked : Tracked ts (length before) → Tracked next (length after)
  unfolding put
  loaded-tracked k =
      let count : next.count ≡ ts.count + 1 = ap (λ (n : Tracks). n.count) a.list in
      let list : length next.list ≡ length ts.list = ap (λ (n : Tracks). length n.list) a.list ∙ length-set ts.list ts.count a.track in
      let few = room.few in
      let enough = room.room in
      let rows = room.rows in
      record {
        list = omega arith;
        rows = omega arith;
        few = omega arith;
        weeks = rw more (weeks-more (tracks_of ts) a.track k.weeks added.week);
      }

-- ---- no rules

take_none : (n : ℕ) (l : List Track) → n ≡ 0 → take n l ≡ []
take_none n l e = rw e

-- as the list begins
pub none-tracked : (ts : Tracks) (flags : ℕ) → ts.count ≡ 0 → Tracked ts flags
none-tracked ts flags e =
    record {
      list = omega arith;
      rows = omega arith;
      few = omega arith;
      weeks = subst Weeks (sym (take_none ts.count ts.list e)) tt;
    }

pub none-settles : (excluded : Bool) (start limit : ℕ) (ts : Tracks) (flags : List Bool) → ts.count ≡ 0
    → Settles excluded start limit [] (tracks_of ts) flags
none-settles excluded start limit ts flags e =
    subst (λ (l : List Track). Settles excluded start limit [] l flags) (sym (take_none ts.count ts.list e)) tt
