-- Several rules, one after the other.
use Rattle.std.specs.Prelude.{if◌then◌else◌}
use Prim.Native.Nat.{ℕ, zero, suc, ◌+◌, ◌-◌, ◌*◌, ◌<◌, ◌≤◌}
use mathlib.Core.Bool.{Bool, true, false, ◌||◌}
use mathlib.Core.List.{List, [], ◌∷◌}
use mathlib.Core.Path.{◌≡◌, refl, sym, ap, ◌∙◌}
use native.Mathlib.Omega.{arith}
use native.Mathlib.Numerals.{add-one}
use lib.ListN.{length, take, drop, get_or, length-drop}
use lib.Seq.{drop-cons, drop-drop, drop-length, length-take-le}
use Rattle.matcher.specs.Inner.Layout.{row_size}
use Rattle.track.specs.declared.Track.{Track}
use Rattle.track.specs.Inner.Runs.{has_day, marked, run, Marking}
use Rattle.track.proofs.RunLaws.{marked-length, marked-run, run-same}
use Rattle.dates.specs.declared.Tracks.{Tracks}
use Rattle.dates.specs.Inner.Tracked.{some_has, mark_each, Weeks, tracks_of, Tracked, Run}

pub weeks-at : (l : List Track) (i : ℕ) (d : Track) → Weeks l → i < length l → (get_or l i d).terms.first < 7
weeks-at [] i d w h = absurd (omega arith)
weeks-at (t ∷ l) zero d w h = w.0
weeks-at (t ∷ l) (suc i) d w h = weeks-at l i d w.1 (omega arith)

-- ---- the loop: what the rules left mark here makes the whole

pub record EachAt (list : List Track) (flags : List Bool) (value : Bool) (first begin : ℕ) (before hits : List Bool) (i : ℕ) : Type 0 where
  pub within : i ≤ length list
  pub size : length hits ≡ length before
  pub same : mark_each (drop i list) (drop (row_size * i) flags) value first begin hits ≡ mark_each list flags value first begin before

module _ (list : List Track) (flags : List Bool) (value : Bool) (first begin : ℕ) (before : List Bool) where
  pub each-starts : EachAt list flags value first begin before before 0
  each-starts = record { within = omega arith; size = refl; same = refl }

  pub each-goes-on : (hits next : List Bool) (i : ℕ) (d t : Track) (row : List Bool) → EachAt list flags value first begin before hits i → i < length list
      → t ≡ get_or list i d → row ≡ take row_size (drop (row_size * i) flags) → next ≡ marked (has_day t row begin) value first hits
      → EachAt list flags value first begin before next (i + 1)
  unfolding mark_each
  each-goes-on hits next i d t row a more is-t is_row is-next =
      let rest : drop i list ≡ get_or list i d ∷ drop (suc i) list = drop-cons list i d more in
      let further : row_size * suc i ≡ row_size * i + row_size = omega arith in
      let rows : drop (row_size * suc i) flags ≡ drop row_size (drop (row_size * i) flags) = ap (λ (n : ℕ). drop n flags) further ∙ sym (drop-drop row_size (row_size * i) flags) in
      let made : next ≡ marked (has_day (get_or list i d) (take row_size (drop (row_size * i) flags)) begin) value first hits = is-next ∙ rw (is-t, is_row) in
      rw (add-one i)
      (record {
        within = more;
        size = ap length is-next ∙ (marked-length (has_day t row begin) value first hits ∙ a.size);
        same =
            rw (rows, made)
            (sym (ap (λ (l : List Track). mark_each l (drop (row_size * i) flags) value first begin hits) rest) ∙ a.same);
      })

  pub each-ends : (hits : List Bool) (i : ℕ) → EachAt list flags value first begin before hits i → length list ≤ i
      → hits ≡ mark_each list flags value first begin before
  unfolding mark_each
  each-ends hits i a over =
      let all : i ≡ length list = omega (arith, a.within) in
      let none : drop i list ≡ [] = rw all (drop-length list) in
      rw none at a.same

-- ---- what is marked

either : (a b value other : Bool) → (if b then value else if a then value else other) ≡ (if a || b then value else other)
either true true value other = refl
either true false value other = refl
either false b value other = refl

pub each-run : (list : List Track) (flags : List Bool) (value : Bool) (q : ℕ → Bool) (first begin n : ℕ)
    → mark_each list flags value first begin (run q first n) ≡ run (λ d. if some_has list flags begin d then value else q d) first n
unfolding mark_each some_has
each-run [] flags value q first begin n = refl
each-run (t ∷ ts) flags value q first begin n =
    ap (mark_each ts (drop row_size flags) value first begin) (marked-run (has_day t (take row_size flags) begin) q value first n)
    ∙ (each-run ts (drop row_size flags) value (λ d. if has_day t (take row_size flags) begin d then value else q d) first begin n
    ∙ run-same _ _ first n (λ d low high. either (has_day t (take row_size flags) begin d) (some_has ts (drop row_size flags) begin d) value (q d)))

-- ---- the i-th rule and its row

pub row_is : (flags : List Bool) (i : ℕ) → take (row_size * i + row_size - row_size * i) (drop (row_size * i) flags) ≡ take row_size (drop (row_size * i) flags)
row_is flags i =
    let less : row_size * i + row_size - row_size * i ≡ row_size = omega arith in
    rw less

pub marking : (ts : Tracks) (flags : List Bool) (k : Tracked ts (length flags)) (i : ℕ) (d : Track) (first n m : ℕ) → i < length (tracks_of ts) → Run first n → m ≡ n
    → Marking (get_or (tracks_of ts) i d) (length (take (row_size * i + row_size - row_size * i) (drop (row_size * i) flags))) first m
marking ts flags k i d first n m h r same =
    let rest = length-drop (row_size * i) flags in
    let less = length-take-le ts.count ts.list k.list in
    let size : row_size ≤ length (drop (row_size * i) flags) = omega (arith, k.rows) in
    record {
      row_length = ap length (row_is flags i) ∙ length-take-le row_size (drop (row_size * i) flags) size;
      week = weeks-at (tracks_of ts) i d k.weeks h;
      low = r.low;
      high = omega (arith, r.high);
    }
