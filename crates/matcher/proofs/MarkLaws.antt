-- What is marked is what the lists say.
use Rattle.std.specs.Prelude.{if◌then◌else◌}
use Prim.Native.Nat.{ℕ, zero, suc, ◌+◌, ◌-◌, ◌*◌, ◌<◌, ◌≤◌}
use mathlib.Core.Bool.{Bool, true, false, ◌&&◌, ◌||◌}
use mathlib.Core.List.{List, [], ◌∷◌}
use mathlib.Core.Option.{Option, none, some}
use mathlib.Core.Path.{◌≡◌, refl, sym, ap, ◌∙◌, subst}
use native.Mathlib.Omega.{arith}
use lib.Dec.{eqb, leb, ltb}
use lib.IntN.{ℤ, pos, negsuc}
use lib.ListN.{length, get_or, set, drop, length-set, drop_of_length-le}
use Rattle.std.proofs.lemmas.List.{ext_get_or}
use lib.Seq.{get_or-set_same, get_or-set_other, drop-cons}
use native.Mathlib.Numerals.{add-one}
use borrow.Author.Tests.{ltb-true, ltb-false, leb-false, eqb-true, eqb-false, eq-eqb, ne_eqb, lt-ltb}
use mir.Facts.{to_z-of_z}
use mir.Syntax.{w64}
use mir.Val.{SFits, to_z, of_z}
use Rattle.signed.specs.Parts.{pos_part, neg_part}
use Rattle.signed.specs.Place.{place_of}
use Rattle.rule.specs.Inner.Read.{nth_from, ndays}
use Rattle.rule.specs.Lists.{any}
use Rattle.rule.proofs.Bools.{by, both, right, same_tests}
use Rattle.matcher.specs.Inner.Flags.{named}
use Rattle.matcher.specs.Inner.Layout.{weekdays_at, nths_at, nths_back}
use Rattle.matcher.specs.Inner.Marks.{mark_one, mark_each, mark_place, mark_places, mark_nth, mark_days, mark_all}

-- ---- one flag

pub mark-length : (fl : List Bool) (at limit i : ℕ) → length (mark_one fl at limit i) ≡ length fl
unfolding mark_one
mark-length fl at limit i = go (ltb i limit)
  where
    go : (b : Bool) → length (if b then set fl (at + i) true else fl) ≡ length fl
    go true = length-set fl (at + i) true
    go false = refl

-- a flag is set where it was, or where the mark was put
pub mark-flag : (fl : List Bool) (at limit i j : ℕ) → at + limit ≤ length fl
    → get_or (mark_one fl at limit i) j false ≡ (get_or fl j false || (ltb i limit && eqb (at + i) j))
unfolding mark_one
mark-flag fl at limit i j room = go (ltb i limit) refl
  where
    or-none : (b : Bool) → b ≡ (b || false)
    or-none true = refl
    or-none false = refl

    or-one : (b : Bool) → true ≡ (b || true)
    or-one true = refl
    or-one false = refl

    put : i < limit → (c : Bool) → eqb (at + i) j ≡ c → get_or (set fl (at + i) true) j false ≡ (get_or fl j false || c)
    put h true e =
        let same = eqb-true (at + i) j e in
        subst (λ (k : ℕ). get_or (set fl (at + i) true) k false ≡ (get_or fl j false || true)) same
        (get_or-set_same fl (at + i) true false (omega arith) ∙ or-one (get_or fl j false))
    put h false e =
        get_or-set_other fl (at + i) j true false (λ f. eqb-false (at + i) j e (sym f)) ∙ or-none (get_or fl j false)

    go : (b : Bool) → ltb i limit ≡ b → get_or (if b then set fl (at + i) true else fl) j false ≡ (get_or fl j false || (b && eqb (at + i) j))
    go true e = put (ltb-true i limit e) (eqb (at + i) j) refl
    go false e = or-none (get_or fl j false)

-- ---- lists of tests

pub any_same : {A : Type 0} (p q : A → Bool) (l : List A) → ((a : A) → p a ≡ q a) → any p l ≡ any q l
unfolding any
any_same p q [] h = refl
any_same p q (a ∷ l) h = rw (h a, any_same p q l h)

pub any-never : {A : Type 0} (p : A → Bool) (l : List A) → ((a : A) → p a ≡ false) → any p l ≡ false
unfolding any
any-never p [] h = refl
any-never p (a ∷ l) h = rw (h a, any-never p l h)

swap : (a b c d : Bool) → ((a || b) || (c || d)) ≡ ((a || c) || (b || d))
swap true b c d = refl
swap false true true d = refl
swap false true false d = refl
swap false false true d = refl
swap false false false d = refl

pub any-or : {A : Type 0} (p q : A → Bool) (l : List A) → (any p l || any q l) ≡ any (λ a. p a || q a) l
unfolding any
any-or p q [] = refl
any-or p q (a ∷ l) = swap (p a) (any p l) (q a) (any q l) ∙ ap (λ (b : Bool). (p a || q a) || b) (any-or p q l)

pub or-regroup : (a b c : Bool) → ((a || b) || c) ≡ (a || (b || c))
or-regroup true b c = refl
or-regroup false b c = refl

pub or-none : (b : Bool) → (b || false) ≡ b
or-none true = refl
or-none false = refl

-- ---- where a mark goes

abbrev pub hits : ℕ → ℕ → ℕ → ℕ → Bool
hits at limit i j = ltb i limit && eqb (at + i) j

pub hits-in : (at limit i k : ℕ) → k < limit → hits at limit i (at + k) ≡ eqb i k
hits-in at limit i k h =
    same_tests (hits at limit i (at + k)) (eqb i k)
    (λ e. eq-eqb i k (omega (arith, eqb-true (at + i) (at + k) (right (ltb i limit) (eqb (at + i) (at + k)) e))))
    (λ e.
    let same = eqb-true i k e in
    both (ltb i limit) (eqb (at + i) (at + k)) (lt-ltb i limit (omega arith)) (eq-eqb (at + i) (at + k) (omega arith)))

pub hits-below : (at limit i j : ℕ) → j < at → hits at limit i j ≡ false
hits-below at limit i j h = rw (ne_eqb (at + i) j (omega arith)) (no_more (ltb i limit))
  where
    no_more : (b : Bool) → (b && false) ≡ false
    no_more true = refl
    no_more false = refl

pub hits-above : (at limit i j : ℕ) → at + limit ≤ j → hits at limit i j ≡ false
hits-above at limit i j h =
    by (ltb i limit) (λ e. rw (e, ne_eqb (at + i) j (omega (arith, ltb-true i limit e)))) (λ e. rw e)

-- ---- lists of marks

pub each-length : (fl : List Bool) (at limit : ℕ) (l : List ℕ) → length (mark_each fl at limit l) ≡ length fl
unfolding mark_each
each-length fl at limit [] = refl
each-length fl at limit (i ∷ l) = each-length (mark_one fl at limit i) at limit l ∙ mark-length fl at limit i

pub each-flag : (fl : List Bool) (at limit : ℕ) (l : List ℕ) (j : ℕ) → at + limit ≤ length fl
    → get_or (mark_each fl at limit l) j false ≡ (get_or fl j false || any (λ i. hits at limit i j) l)
unfolding mark_each any
each-flag fl at limit [] j room = sym (or-none (get_or fl j false))
each-flag fl at limit (i ∷ l) j room =
    each-flag (mark_one fl at limit i) at limit l j (rw (mark-length fl at limit i) room)
    ∙ (ap (λ (b : Bool). b || any (λ i. hits at limit i j) l) (mark-flag fl at limit i j room)
    ∙ or-regroup (get_or fl j false) (hits at limit i j) (any (λ i. hits at limit i j) l))

pub place-length : (fl : List Bool) (on back limit : ℕ) (z : ℤ) → length (mark_place fl on back limit z) ≡ length fl
unfolding mark_place
place-length fl on back limit z = mark-length (mark_one fl on limit (pos_part z)) back limit (neg_part z) ∙ mark-length fl on limit (pos_part z)

abbrev pub hits_place : ℕ → ℕ → ℕ → ℤ → ℕ → Bool
hits_place on back limit z j = hits on limit (pos_part z) j || hits back limit (neg_part z) j

pub place-flag : (fl : List Bool) (on back limit : ℕ) (z : ℤ) (j : ℕ) → on + limit ≤ length fl → back + limit ≤ length fl
    → get_or (mark_place fl on back limit z) j false ≡ (get_or fl j false || hits_place on back limit z j)
unfolding mark_place
place-flag fl on back limit z j room more =
    mark-flag (mark_one fl on limit (pos_part z)) back limit (neg_part z) j (rw (mark-length fl on limit (pos_part z)) more)
    ∙ (ap (λ (b : Bool). b || hits back limit (neg_part z) j) (mark-flag fl on limit (pos_part z) j room)
    ∙ or-regroup (get_or fl j false) (hits on limit (pos_part z) j) (hits back limit (neg_part z) j))

pub places-length : (fl : List Bool) (on back limit : ℕ) (l : List ℤ) → length (mark_places fl on back limit l) ≡ length fl
unfolding mark_places
places-length fl on back limit [] = refl
places-length fl on back limit (z ∷ l) = places-length (mark_place fl on back limit z) on back limit l ∙ place-length fl on back limit z

pub places-flag : (fl : List Bool) (on back limit : ℕ) (l : List ℤ) (j : ℕ) → on + limit ≤ length fl → back + limit ≤ length fl
    → get_or (mark_places fl on back limit l) j false ≡ (get_or fl j false || any (λ z. hits_place on back limit z j) l)
unfolding mark_places any
places-flag fl on back limit [] j room more = sym (or-none (get_or fl j false))
places-flag fl on back limit (z ∷ l) j room more =
    let same = place-length fl on back limit z in
    places-flag (mark_place fl on back limit z) on back limit l j (rw same room) (rw same more)
    ∙ (ap (λ (b : Bool). b || any (λ z. hits_place on back limit z j) l) (place-flag fl on back limit z j room more)
    ∙ or-regroup (get_or fl j false) (hits_place on back limit z j) (any (λ z. hits_place on back limit z j) l))

pub all-length : (fl : List Bool) (at n : ℕ) → length (mark_all fl at n) ≡ length fl
unfolding mark_all
all-length fl at zero = refl
all-length fl at (suc n) = all-length (set fl (at + n) true) at n ∙ length-set fl (at + n) true

-- ---- a place by its number and by its number from the end

pub place-tests : (z : ℤ) (p n : ℕ) → 1 ≤ p → p ≤ n → (eqb (pos_part z) p || eqb (neg_part z) (n + 1 - p)) ≡ eqb (place_of z n) p
unfolding place_of
place-tests (pos k) p n low high =
    let far = ne_eqb 0 (n + 1 - p) (omega arith) in
    rw (far, or-none (eqb k p))
    (by (leb k n) (λ e. rw e)
    (λ e. rw (e, ne_eqb k p (omega (arith, leb-false k n e)), ne_eqb 0 p (omega arith))))
place-tests (negsuc k) p n low high =
    let far = ne_eqb 0 p (omega arith) in
    rw far
    (same_tests (eqb (suc k) (n + 1 - p)) (eqb (n - k) p)
    (λ e. let f = eqb-true (suc k) (n + 1 - p) e in eq-eqb (n - k) p (omega arith))
    (λ e. let f = eqb-true (n - k) p e in eq-eqb (suc k) (n + 1 - p) (omega arith)))

pub named-or : (a b : Bool) → (if a then true else b) ≡ (a || b)
named-or true b = refl
named-or false b = refl

-- what two runs of flags name, where nothing was marked in them before
pub named-places : (fl : List Bool) (on back limit : ℕ) (l : List ℤ) (p n : ℕ) → on + limit ≤ back → back + limit ≤ length fl
    → get_or fl (on + p) false ≡ false → get_or fl (back + (n + 1 - p)) false ≡ false → 1 ≤ p → p ≤ n → n < limit
    → named (mark_places fl on back limit l) on back p n ≡ any (λ z. eqb (place_of z n) p) l
unfolding named
named-places fl on back limit l p n apart room clear clear-back low high small =
    let first : get_or (mark_places fl on back limit l) (on + p) false ≡ any (λ z. eqb (pos_part z) p) l =
    places-flag fl on back limit l (on + p) (omega arith) room
    ∙ (rw clear (any_same (λ z. hits_place on back limit z (on + p)) (λ z. eqb (pos_part z) p) l
    (λ z. rw (hits-in on limit (pos_part z) p (omega arith), hits-below back limit (neg_part z) (on + p) (omega arith)) (or-none (eqb (pos_part z) p)))))
    in
    let last : get_or (mark_places fl on back limit l) (back + (n + 1 - p)) false ≡ any (λ z. eqb (neg_part z) (n + 1 - p)) l =
    places-flag fl on back limit l (back + (n + 1 - p)) (omega arith) room
    ∙ (rw clear-back (any_same (λ z. hits_place on back limit z (back + (n + 1 - p))) (λ z. eqb (neg_part z) (n + 1 - p)) l
    (λ z. rw (hits-above on limit (pos_part z) (back + (n + 1 - p)) (omega arith), hits-in back limit (neg_part z) (n + 1 - p) (omega arith)))))
    in
    rw (first, last)
    (named-or (any (λ z. eqb (pos_part z) p) l) (any (λ z. eqb (neg_part z) (n + 1 - p)) l)
    ∙ (any-or (λ z. eqb (pos_part z) p) (λ z. eqb (neg_part z) (n + 1 - p)) l
    ∙ any_same (λ z. eqb (pos_part z) p || eqb (neg_part z) (n + 1 - p)) (λ z. eqb (place_of z n) p) l (λ z. place-tests z p n low high)))

-- ---- all flags of a run

pub all-other : (fl : List Bool) (at n j : ℕ) → at + n ≤ j → get_or (mark_all fl at n) j false ≡ get_or fl j false
unfolding mark_all
all-other fl at zero j h = refl
all-other fl at (suc n) j h = all-other (set fl (at + n) true) at n j (omega arith) ∙ get_or-set_other fl (at + n) j true false (omega arith)

pub all-flag : (fl : List Bool) (at n k : ℕ) → at + n ≤ length fl → k < n → get_or (mark_all fl at n) (at + k) false ≡ true
unfolding mark_all
all-flag fl at zero k room h = absurd (omega arith)
all-flag fl at (suc n) k room h =
    by (ltb k n) (λ e. all-flag (set fl (at + n) true) at n k (rw (length-set fl (at + n) true) (omega arith)) (ltb-true k n e))
    (λ e.
    let same : k ≡ n = omega (arith, ltb-false k n e) in
    rw same (all-other (set fl (at + n) true) at n (at + n) (omega arith) ∙ get_or-set_same fl (at + n) true false (omega arith)))

pub all-below : (fl : List Bool) (at n j : ℕ) → j < at → get_or (mark_all fl at n) j false ≡ get_or fl j false
unfolding mark_all
all-below fl at zero j h = refl
all-below fl at (suc n) j h = all-below (set fl (at + n) true) at n j h ∙ get_or-set_other fl (at + n) j true false (omega arith)

-- ---- the loops that mark: what is marked from here on is what is marked from the start on

pub record EachAt (fl₀ : List Bool) (at limit : ℕ) (list : List ℕ) (fl : List Bool) (i : ℕ) : Type 0 where
  pub size : length fl ≡ length fl₀
  pub same : mark_each fl at limit (drop i list) ≡ mark_each fl₀ at limit list

module _ (fl₀ : List Bool) (at limit : ℕ) (list : List ℕ) where
  pub each-goes-on : (fl next : List Bool) (i : ℕ) → EachAt fl₀ at limit list fl i → i < length list
      → next ≡ mark_one fl at limit (get_or list i 0) → EachAt fl₀ at limit list next (i + 1)
  unfolding mark_each
  each-goes-on fl next i w h e =
      record {
        size = rw e (mark-length fl at limit (get_or list i 0) ∙ w.size);
        same = rw (e, add-one i) (rw (drop-cons list i 0 h) at w.same);
      }

  pub each-ends : (fl : List Bool) (i : ℕ) → EachAt fl₀ at limit list fl i → length list ≤ i → fl ≡ mark_each fl₀ at limit list
  unfolding mark_each
  each-ends fl i w h = rw (drop_of_length-le list h) at w.same

pub record PlacesAt (fl₀ : List Bool) (on back limit : ℕ) (list : List ℤ) (fl : List Bool) (i : ℕ) : Type 0 where
  pub size : length fl ≡ length fl₀
  pub same : mark_places fl on back limit (drop i list) ≡ mark_places fl₀ on back limit list

module _ (fl₀ : List Bool) (on back limit : ℕ) (list : List ℤ) where
  pub places-goes-on : (fl next : List Bool) (i : ℕ) → PlacesAt fl₀ on back limit list fl i → i < length list
      → next ≡ mark_place fl on back limit (get_or list i (pos 0)) → PlacesAt fl₀ on back limit list next (i + 1)
  unfolding mark_places
  places-goes-on fl next i w h e =
      record {
        size = rw e (place-length fl on back limit (get_or list i (pos 0)) ∙ w.size);
        same = rw (e, add-one i) (rw (drop-cons list i (pos 0) h) at w.same);
      }

  pub places-ends : (fl : List Bool) (i : ℕ) → PlacesAt fl₀ on back limit list fl i → length list ≤ i → fl ≡ mark_places fl₀ on back limit list
  unfolding mark_places
  places-ends fl i w h = rw (drop_of_length-le list h) at w.same

-- ---- the loop that marks a whole run: its flags before i are set, and the others are as they were

pub record AllAt (fl₀ : List Bool) (at i : ℕ) (fl : List Bool) : Type 0 where
  pub size : length fl ≡ length fl₀
  pub here : (j : ℕ) → at ≤ j → j < i → get_or fl j false ≡ true
  pub low : (j : ℕ) → j < at → get_or fl j false ≡ get_or fl₀ j false
  pub high : (j : ℕ) → i ≤ j → get_or fl j false ≡ get_or fl₀ j false

module _ (fl₀ : List Bool) (at : ℕ) where
  pub all-starts : AllAt fl₀ at at fl₀
  all-starts = record { size = refl; here = λ j low high. absurd (omega arith); low = λ j h. refl; high = λ j h. refl }

  pub all-goes-on : (fl : List Bool) (i : ℕ) → AllAt fl₀ at i fl → at ≤ i → i < length fl → AllAt fl₀ at (i + 1) (set fl i true)
  all-goes-on fl i w from more =
      record {
        size = length-set fl i true ∙ w.size;
        here = λ j low high.
            by (ltb j i)
            (λ e. get_or-set_other fl i j true false (λ same. omega (arith, ltb-true j i e)) ∙ w.here j low (ltb-true j i e))
            (λ e.
            let same : i ≡ j = omega (arith, ltb-false j i e) in
            subst (λ (k : ℕ). get_or (set fl i true) k false ≡ true) same (get_or-set_same fl i true false more));
        low = λ j h. get_or-set_other fl i j true false (λ same. omega arith) ∙ w.low j h;
        high = λ j h. get_or-set_other fl i j true false (λ same. omega arith) ∙ w.high j (omega arith);
      }

  pub all-ends : (fl : List Bool) (i n : ℕ) → AllAt fl₀ at i fl → i ≡ at + n → at + n ≤ length fl₀ → fl ≡ mark_all fl₀ at n
  all-ends fl i n w last room =
      ext_get_or false fl (mark_all fl₀ at n) (w.size ∙ sym (all-length fl₀ at n))
      (λ j h.
      by (ltb j at) (λ t. w.low j (ltb-true j at t) ∙ sym (all-below fl₀ at n j (ltb-true j at t)))
      (λ t.
      let low = ltb-false j at t in
      by (ltb j (at + n))
      (λ u.
      let high = ltb-true j (at + n) u in
      let whole : at + (j - at) ≡ j = omega arith in
      w.here j low (omega arith) ∙ sym (subst (λ (k : ℕ). get_or (mark_all fl₀ at n) k false ≡ true) whole (all-flag fl₀ at n (j - at) room (omega arith))))
      (λ u. w.high j (omega (arith, ltb-false j (at + n) u)) ∙ sym (all-other fl₀ at n j (ltb-false j (at + n) u)))))

pub nth-some : (fl next : List Bool) (w : ℕ) (z : ℤ) → (z ≡ pos 0 → ⊥) → next ≡ mark_nth fl w (some z) → next ≡ mark_nth fl w (nth_from z)
unfolding nth_from
nth-some fl next w (pos zero) h e = absurd (h refl)
nth-some fl next w (pos (suc n)) h e = rw (lt-ltb 0 (suc n) (omega arith)) e
nth-some fl next w (negsuc n) h e = rw (lt-ltb 0 (suc n) (omega arith)) e

-- a number is 0 where its bits are
pub no-bits : (z : ℤ) → SFits w64 z → of_z w64 z ≡ 0 → z ≡ pos 0
no-bits z fits e = sym (to_z-of_z fits) ∙ ap (to_z w64) e

pub nth-none : (fl next : List Bool) (w : ℕ) (z : ℤ) → z ≡ pos 0 → next ≡ mark_one fl weekdays_at 7 w → next ≡ mark_nth fl w (nth_from z)
unfolding nth_from mark_nth
nth-none fl next w z h e = rw h e

nth-size : (fl : List Bool) (w : ℕ) (o : Option ℤ) → length (mark_nth fl w o) ≡ length fl
unfolding mark_nth
nth-size fl w none = mark-length fl weekdays_at 7 w
nth-size fl w (some z) = go (ltb w 7)
  where
    go : (b : Bool) → length (if b then mark_place fl (nths_at + 54 * w) (nths_back + 54 * w) 54 z else fl) ≡ length fl
    go true = place-length fl (nths_at + 54 * w) (nths_back + 54 * w) 54 z
    go false = refl

pub record DaysAt (fl₀ : List Bool) (ws : List ℕ) (zs : List ℤ) (fl : List Bool) (i : ℕ) : Type 0 where
  pub size : length fl ≡ length fl₀
  pub same : mark_days fl (ndays (drop i ws) (drop i zs)) ≡ mark_days fl₀ (ndays ws zs)

module _ (fl₀ : List Bool) (ws : List ℕ) (zs : List ℤ) where
  pub days-goes-on : (fl next : List Bool) (i : ℕ) → DaysAt fl₀ ws zs fl i → i < length ws → length ws ≡ length zs
      → next ≡ mark_nth fl (get_or ws i 0) (nth_from (get_or zs i (pos 0))) → DaysAt fl₀ ws zs next (i + 1)
  unfolding mark_days ndays
  days-goes-on fl next i w h even e =
      record {
        size = rw e (nth-size fl (get_or ws i 0) (nth_from (get_or zs i (pos 0))) ∙ w.size);
        same = rw (e, add-one i) (rw (drop-cons ws i 0 h, drop-cons zs i (pos 0) (omega arith)) at w.same);
      }

  pub days-ends : (fl : List Bool) (i : ℕ) → DaysAt fl₀ ws zs fl i → length ws ≤ i → fl ≡ mark_days fl₀ (ndays ws zs)
  unfolding mark_days ndays
  days-ends fl i w h = rw (drop_of_length-le ws h) at w.same
