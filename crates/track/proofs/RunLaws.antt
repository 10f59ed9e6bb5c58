-- Runs of days: marking one day after another, and the answers of tests.
use Rattle.std.specs.Prelude.{if◌then◌else◌}
use Prim.Native.Nat.{ℕ, zero, suc, ◌+◌, ◌-◌, ◌<◌, ◌≤◌}
use mathlib.Core.Bool.{Bool, true, false, ◌||◌}
use mathlib.Core.List.{List, [], ◌∷◌, ◌++◌, append-nil}
use mathlib.Core.Path.{◌≡◌, refl, sym, ap, ◌∙◌}
use native.Mathlib.Omega.{arith}
use native.Mathlib.Numerals.{add-one}
use lib.ListN.{length, take, drop, get_or, set, length-set}
use lib.Seq.{drop-cons, take-suc, take-suc-set, drop-set-lt, append_snoc, take_all, drop-length}
use Rattle.track.specs.Inner.Runs.{marked, run}

-- ---- the loop that marks: what is marked, and what is left to mark, make the whole

pub record MarkAt (p : ℕ → Bool) (value : Bool) (first : ℕ) (before hits : List Bool) (i : ℕ) : Type 0 where
  pub within : i ≤ length hits
  pub size : length hits ≡ length before
  pub same : take i hits ++ marked p value (first + i) (drop i hits) ≡ marked p value first before

marked-yes : (p : ℕ → Bool) (value : Bool) (d : ℕ) (h : Bool) (l : List Bool) → p d ≡ true
    → marked p value d (h ∷ l) ≡ value ∷ marked p value (suc d) l
unfolding marked
marked-yes p value d h l e = rw e

marked-no : (p : ℕ → Bool) (value : Bool) (d : ℕ) (h : Bool) (l : List Bool) → p d ≡ false
    → marked p value d (h ∷ l) ≡ h ∷ marked p value (suc d) l
unfolding marked
marked-no p value d h l e = rw e

module _ (p : ℕ → Bool) (value : Bool) (first : ℕ) (before : List Bool) where
  pub mark-starts : MarkAt p value first before before 0
  mark-starts =
      let here : first + 0 ≡ first = omega arith in
      record { within = omega arith; size = refl; same = rw here }

  module _ (hits : List Bool) (i : ℕ) (m : MarkAt p value first before hits i) (more : i < length hits) where
    next : first + suc i ≡ suc (first + i)
    next = omega arith

    pub mark-yes : p (first + i) ≡ true → MarkAt p value first before (set hits i value) (i + 1)
    mark-yes yes-it-is =
        let rest : drop i hits ≡ get_or hits i false ∷ drop (suc i) hits = drop-cons hits i false more in
        rw (add-one i)
        (record {
          within = rw (length-set hits i value) more;
          size = length-set hits i value ∙ m.size;
          same =
              rw (take-suc-set hits i value more, drop-set-lt (suc i) hits i value (omega arith), next)
              (append_snoc (take i hits) value (marked p value (suc (first + i)) (drop (suc i) hits))
              ∙ (ap (λ (l : List Bool). take i hits ++ l)
              (sym (ap (marked p value (first + i)) rest ∙ marked-yes p value (first + i) (get_or hits i false) (drop (suc i) hits) yes-it-is))
              ∙ m.same));
        })

    pub mark-no : p (first + i) ≡ false → MarkAt p value first before hits (i + 1)
    mark-no no-it-is-not =
        let rest : drop i hits ≡ get_or hits i false ∷ drop (suc i) hits = drop-cons hits i false more in
        rw (add-one i)
        (record {
          within = more;
          size = m.size;
          same =
              rw (take-suc hits i false more, next)
              (append_snoc (take i hits) (get_or hits i false) (marked p value (suc (first + i)) (drop (suc i) hits))
              ∙ (ap (λ (l : List Bool). take i hits ++ l)
              (sym (ap (marked p value (first + i)) rest ∙ marked-no p value (first + i) (get_or hits i false) (drop (suc i) hits) no-it-is-not))
              ∙ m.same));
        })

  pub mark-ends : (hits : List Bool) (i : ℕ) → MarkAt p value first before hits i → length hits ≤ i
      → hits ≡ marked p value first before
  unfolding marked
  mark-ends hits i m over =
      let all : i ≡ length hits = omega (arith, m.within) in
      let none : drop i hits ≡ [] = rw all (drop-length hits) in
      sym (take_all i hits over) ∙ (sym (append-nil (take i hits)) ∙ (rw none at m.same))

  -- days that do not pass are left as they are
  mark-skips : (hits : List Bool) (i : ℕ) → MarkAt p value first before hits i → (g : ℕ) → i + g ≤ length hits
      → ((d : ℕ) → first + i ≤ d → d < first + i + g → p d ≡ false) → MarkAt p value first before hits (i + g)
  mark-skips hits i m zero h out = let same : i + 0 ≡ i = omega arith in rw same m
  mark-skips hits i m (suc g) h out =
      let next : i + suc g ≡ i + g + 1 = omega arith in
      rw next
      (mark-no hits (i + g) (mark-skips hits i m g (omega arith) (λ d low high. out d low (omega arith))) (omega arith) (out (first + (i + g)) (omega arith) (omega arith)))

  pub mark-goes-by : (hits : List Bool) (i d g : ℕ) → MarkAt p value first before hits i → d ≡ first + i → i + g < length hits
      → ((j : ℕ) → d ≤ j → j < d + g → p j ≡ false) → MarkAt p value first before hits (i + g)
  mark-goes-by hits i d g m at h out = mark-skips hits i m g (omega arith) (λ j low high. out j (omega arith) (omega arith))

  pub mark-rests : (hits : List Bool) (i d g : ℕ) → MarkAt p value first before hits i → d ≡ first + i → length hits ≤ i + g
      → ((j : ℕ) → d ≤ j → j < d + g → p j ≡ false) → hits ≡ marked p value first before
  mark-rests hits i d g m at over out =
      mark-ends hits (i + (length hits - i))
      (mark-skips hits i m (length hits - i) (omega (arith, m.within)) (λ j low high. out j (omega arith) (omega arith))) (omega (arith, m.within))

-- ---- a marked run by its answers

pub marked-length : (p : ℕ → Bool) (value : Bool) (d : ℕ) (l : List Bool) → length (marked p value d l) ≡ length l
unfolding marked
marked-length p value d [] = refl
marked-length p value d (h ∷ l) = ap suc (marked-length p value (suc d) l)

pub marked-run : (p q : ℕ → Bool) (value : Bool) (d n : ℕ) → marked p value d (run q d n) ≡ run (λ e. if p e then value else q e) d n
unfolding marked run
marked-run p q value d zero = refl
marked-run p q value d (suc n) = ap (λ (l : List Bool). (if p d then value else q d) ∷ l) (marked-run p q value (suc d) n)

pub run-same : (p q : ℕ → Bool) (d n : ℕ) → ((e : ℕ) → d ≤ e → e < d + n → p e ≡ q e) → run p d n ≡ run q d n
unfolding run
run-same p q d zero h = refl
run-same p q d (suc n) h =
    rw (h d (omega arith) (omega arith), run-same p q (suc d) n (λ e low high. h e (omega arith) (omega arith)))

pub run_length : (p : ℕ → Bool) (d n : ℕ) → length (run p d n) ≡ n
unfolding run
run_length p d zero = refl
run_length p d (suc n) = ap suc (run_length p (suc d) n)

pub run_at : (p : ℕ → Bool) (d n i : ℕ) → i < n → get_or (run p d n) i false ≡ p (d + i)
unfolding run
run_at p d zero i h = absurd (omega arith)
run_at p d (suc n) zero h = ap p (omega arith)
run_at p d (suc n) (suc i) h = run_at p (suc d) n i (omega arith) ∙ ap p (omega arith)

-- ---- marking twice, marking nothing, marking one day

pub marked-or : (p q : ℕ → Bool) (value : Bool) (d : ℕ) (l : List Bool)
    → marked q value d (marked p value d l) ≡ marked (λ e. p e || q e) value d l
unfolding marked
marked-or p q value d [] = refl
marked-or p q value d (h ∷ l) = rw (marked-or p q value (suc d) l) (ap (λ (b : Bool). b ∷ marked (λ e. p e || q e) value (suc d) l) (either (p d) (q d)))
  where
    either : (a b : Bool) → (if b then value else if a then value else h) ≡ (if a || b then value else h)
    either true true = refl
    either true false = refl
    either false b = refl

pub marked-same : (p q : ℕ → Bool) (value : Bool) (d : ℕ) (l : List Bool) → ((e : ℕ) → p e ≡ q e) → marked p value d l ≡ marked q value d l
unfolding marked
marked-same p q value d [] h = refl
marked-same p q value d (x ∷ l) h = rw (h d, marked-same p q value (suc d) l h)

pub marked-shift : (p q : ℕ → Bool) (value : Bool) (a b : ℕ) (l : List Bool) → ((i : ℕ) → i < length l → p (a + i) ≡ q (b + i))
    → marked p value a l ≡ marked q value b l
unfolding marked
marked-shift p q value a b [] h = refl
marked-shift p q value a b (x ∷ l) h =
    let here : p a ≡ q b = ap p (omega arith) ∙ (h 0 (omega arith) ∙ ap q (omega arith)) in
    rw (
      here,
      marked-shift p q value (suc a) (suc b) l (λ i less. ap p (omega arith) ∙ (h (suc i) (omega arith) ∙ ap q (omega arith))),
    )

pub marked-none : (p : ℕ → Bool) (value : Bool) (d : ℕ) (l : List Bool) → ((e : ℕ) → d ≤ e → e < d + length l → p e ≡ false) → marked p value d l ≡ l
unfolding marked
marked-none p value d [] h = refl
marked-none p value d (x ∷ l) h =
    rw (h d (omega arith) (omega arith), marked-none p value (suc d) l (λ e low high. h e (omega arith) (omega arith)))

-- the i-th day alone passes
pub marked-one : (p : ℕ → Bool) (value : Bool) (d : ℕ) (l : List Bool) (i : ℕ) → i < length l → p (d + i) ≡ true
    → ((e : ℕ) → (e ≡ d + i → ⊥) → p e ≡ false) → marked p value d l ≡ set l i value
unfolding marked
marked-one p value d [] i h yes-it-is no_other = absurd (omega arith)
marked-one p value d (x ∷ l) zero h yes-it-is no_other =
    let here : d + 0 ≡ d = omega arith in
    rw (ap p (sym here) ∙ yes-it-is, marked-none p value (suc d) l (λ e low high. no_other e (λ same. omega arith)))
marked-one p value d (x ∷ l) (suc i) h yes-it-is no_other =
    let here : suc d + i ≡ d + suc i = omega arith in
    rw (
      no_other d (λ same. omega arith),
      marked-one p value (suc d) l i (omega arith) (ap p here ∙ yes-it-is) (λ e other. no_other e (λ same. other (omega arith))),
    )
