-- Writing days into a list: those of hits, and those of a list from 0.
use Rattle.std.specs.Prelude.{if◌then◌else◌}
use Prim.Native.Nat.{ℕ, zero, suc, ◌+◌, ◌<◌, ◌≤◌}
use mathlib.Core.Bool.{Bool, true, false}
use mathlib.Core.List.{List, [], ◌∷◌, ◌++◌, map, append_assoc, append-nil}
use mathlib.Core.Path.{◌≡◌, refl, sym, ap, ◌∙◌, subst}
use native.Mathlib.Omega.{arith}
use native.Mathlib.Numerals.{add-one}
use lib.ListN.{length, take, get_or, set, length-set, length-map}
use lib.Seq.{take-suc, take-suc-set, take-set-le, take-length, get_or-set_other}
use Rattle.window.specs.Inner.Lists.{list_in}
use Rattle.window.proofs.ListLaws.{list-split}
use Rattle.listing.specs.Inner.Lists.{hit_on, Collected, Copied}

-- ---- one more day of a list

list-one : (p : ℕ → Bool) (a : ℕ) → list_in p a 1 ≡ (if p a then a ∷ [] else [])
unfolding list_in
list-one p a = refl

list-last : (p : ℕ → Bool) (a n : ℕ) (b : Bool) → p (a + n) ≡ b → list_in p a (n + 1) ≡ list_in p a n ++ (if b then (a + n) ∷ [] else [])
list-last p a n b is = list-split p a n 1 ∙ ap (λ (l : List ℕ). list_in p a n ++ l) (list-one p (a + n) ∙ rw is)

hit-there : (hits : List Bool) (first k : ℕ) → hit_on hits first (first + k) ≡ get_or hits k false
unfolding hit_on
hit-there hits first k = ap (λ (i : ℕ). get_or hits i false) (omega arith)

-- ---- the loop over hits

-- Of k hits so many are set.
pub record CollectAt (hits : List Bool) (first : ℕ) (before : List ℕ) (at : ℕ) (after : List ℕ) (k found : ℕ) : Type 0 where
  pub within : k ≤ length hits
  pub size : length after ≡ length before
  pub most : found ≤ k
  pub days : take (at + found) after ≡ take at before ++ list_in (hit_on hits first) first k
  pub low : (j : ℕ) → j < at → get_or after j 0 ≡ get_or before j 0
  pub high : (j : ℕ) → at + length hits ≤ j → get_or after j 0 ≡ get_or before j 0

module _ (hits : List Bool) (first : ℕ) (before : List ℕ) (at : ℕ) where
  list-none : take (at + 0) before ≡ take at before ++ list_in (hit_on hits first) first 0
  unfolding list_in
  list-none =
      let here : at + 0 ≡ at = omega arith in
      rw here (sym (append-nil (take at before)))

  pub collect-starts : CollectAt hits first before at before 0 0
  collect-starts =
      record {
        within = omega arith;
        size = refl;
        most = omega arith;
        days = list-none;
        low = λ j h. refl;
        high = λ j h. refl;
      }

  module _ (after : List ℕ) (k found : ℕ) (c : CollectAt hits first before at after k found) (less : k < length hits) (room : at + length hits ≤ length before) where
    pub collect-room : at + found < length after
    collect-room = omega (arith, c.most, c.size)

    taken : (b : Bool) → get_or hits k false ≡ b → take (at + (found + (if b then 1 else 0))) (set after (at + found) (first + k)) ≡ take at before ++ list_in (hit_on hits first) first (k + 1)
    taken true is =
        let more : at + (found + 1) ≡ suc (at + found) = omega arith in
        ap (λ (n : ℕ). take n (set after (at + found) (first + k))) more
        ∙ (take-suc-set after (at + found) (first + k) collect-room
        ∙ (ap (λ (l : List ℕ). l ++ ((first + k) ∷ [])) c.days
        ∙ (append_assoc (take at before) (list_in (hit_on hits first) first k) ((first + k) ∷ [])
        ∙ ap (λ (l : List ℕ). take at before ++ l) (sym (list-last (hit_on hits first) first k true (hit-there hits first k ∙ is))))))
    taken false is =
        let same : at + (found + 0) ≡ at + found = omega arith in
        ap (λ (n : ℕ). take n (set after (at + found) (first + k))) same
        ∙ (take-set-le (at + found) after (at + found) (first + k) (omega arith)
        ∙ (c.days
        ∙ ap (λ (l : List ℕ). take at before ++ l)
        (sym (list-last (hit_on hits first) first k false (hit-there hits first k ∙ is) ∙ append-nil (list_in (hit_on hits first) first k)))))

    step : (b : Bool) → get_or hits k false ≡ b → CollectAt hits first before at (set after (at + found) (first + k)) (k + 1) (found + (if b then 1 else 0))
    step b is =
        let few : (if b then 1 else 0) ≤ 1 = at_most b in
        record {
          within = omega arith;
          size = length-set after (at + found) (first + k) ∙ c.size;
          most = omega (arith, c.most, few);
          days = taken b is;
          low = λ j h. get_or-set_other after (at + found) j (first + k) 0 (λ same. omega arith) ∙ c.low j h;
          high = λ j h. get_or-set_other after (at + found) j (first + k) 0 (λ same. omega (arith, c.most)) ∙ c.high j h;
        }
      where
        at_most : (b : Bool) → (if b then 1 else 0) ≤ 1
        at_most true = omega arith
        at_most false = omega arith

    pub collect-one : (next : ℕ) → next ≡ found + (if get_or hits k false then 1 else 0) → CollectAt hits first before at (set after (at + found) (first + k)) (k + 1) next
    collect-one next is = subst (CollectAt hits first before at (set after (at + found) (first + k)) (k + 1)) (sym is) (step (get_or hits k false) refl)

  pub collect-ends : (after : List ℕ) (k found : ℕ) → CollectAt hits first before at after k found → length hits ≤ k → Collected hits first before at after (at + found)
  collect-ends after k found c over =
      let all : k ≡ length hits = omega (arith, c.within) in
      record {
        listed =
            record {
              size = c.size;
              most = omega (arith, c.most);
              days = subst (λ (n : ℕ). take (at + found) after ≡ take at before ++ list_in (hit_on hits first) first n) all c.days;
            };
        more = omega arith;
        low = c.low;
        high = c.high;
      }

-- ---- the loop over a list from 0

pub record CopyAt (list : List ℕ) (first : ℕ) (before : List ℕ) (at : ℕ) (after : List ℕ) (k : ℕ) : Type 0 where
  pub within : k ≤ length list
  pub size : length after ≡ length before
  pub days : take (at + k) after ≡ take at before ++ take k (map (λ d. first + d) list)

module _ (list : List ℕ) (first : ℕ) (before : List ℕ) (at : ℕ) where
  shifted : List ℕ
  shifted = map (λ d. first + d) list

  pub copy-starts : CopyAt list first before at before 0
  copy-starts =
      let here : at + 0 ≡ at = omega arith in
      record { within = omega arith; size = refl; days = ap (λ (n : ℕ). take n before) here ∙ sym (append-nil (take at before)) }

  module _ (after : List ℕ) (k : ℕ) (c : CopyAt list first before at after k) (less : k < length list) (room : at + length list ≤ length before) where
    pub copy-room : at + k < length after
    copy-room = omega (arith, c.size)

    pub copy-one : CopyAt list first before at (set after (at + k) (first + get_or list k 0)) (k + 1)
    unfolding shifted
    copy-one =
        let next : at + (k + 1) ≡ suc (at + k) = omega arith in
        let value : get_or shifted k 0 ≡ first + get_or list k 0 = value-at list k less in
        let many : k < length shifted = subst (λ (n : ℕ). k < n) (sym (length-map list (λ d. first + d))) less in
        record {
          within = omega arith;
          size = length-set after (at + k) (first + get_or list k 0) ∙ c.size;
          days =
              ap (λ (n : ℕ). take n (set after (at + k) (first + get_or list k 0))) next
              ∙ (take-suc-set after (at + k) (first + get_or list k 0) copy-room
              ∙ (ap (λ (l : List ℕ). l ++ ((first + get_or list k 0) ∷ [])) c.days
              ∙ (append_assoc (take at before) (take k shifted) ((first + get_or list k 0) ∷ [])
              ∙ ap (λ (l : List ℕ). take at before ++ l)
              (ap (λ (v : ℕ). take k shifted ++ (v ∷ [])) (sym value) ∙ (sym (take-suc shifted k 0 many) ∙ ap (λ (n : ℕ). take n shifted) (sym (add-one k)))))));
        }
      where
        value-at : (l : List ℕ) (i : ℕ) → i < length l → get_or (map (λ d. first + d) l) i 0 ≡ first + get_or l i 0
        value-at [] i h = absurd (omega arith)
        value-at (d ∷ l) zero h = refl
        value-at (d ∷ l) (suc i) h = value-at l i (omega arith)

  pub copy-ends : (after : List ℕ) (k : ℕ) → CopyAt list first before at after k → length list ≤ k → Copied list first before at after (at + k)
  unfolding shifted
  copy-ends after k c over =
      let all : k ≡ length list = omega (arith, c.within) in
      let whole : take k shifted ≡ shifted = ap (λ (n : ℕ). take n shifted) (all ∙ sym (length-map list (λ d. first + d))) ∙ take-length shifted in
      record { size = c.size; place = omega arith; days = c.days ∙ ap (λ (l : List ℕ). take at before ++ l) whole }
