-- The number that is found for a name is that of the word that it is.
use Rattle.std.specs.Prelude.{if◌then◌else◌}
use Prim.Native.Nat.{ℕ, zero, suc, ◌+◌, ◌≤◌, ◌<◌}
use mathlib.Core.Bool.{Bool, true, false}
use mathlib.Core.List.{List}
use mathlib.Core.Path.{◌≡◌, refl, ap, sym, ◌∙◌}
use native.Mathlib.Omega.{arith}
use lib.Dec.{T, eqb, eqb→eq, ltb, leb→le}
use lib.ListN.{length, get_or}
use borrow.Author.Tests.{eq-eqb, eqb-true}
use Rattle.gregorian.proofs.Computed.{all-below}
use Rattle.json_text.specs.Bytes.{byte}
use Rattle.json_walk.proofs.Laws.{bytes-ahead, length-bytes, same-eq}
use Rattle.json_walk.specs.Strings.{bytes_at, raw_at, same}
use Rattle.json_walk.specs.Inner.Within.{ahead, within}
use Rattle.property.specs.Inner.Vocabulary.{vocabulary, word_of, numbered, of_short, of_five, of_seven, of_eight, of_twelve, of_long, number_by, number_at}

-- A number that was found for the name x: none, or one whose word x is.
record Sound (x : List ℕ) (r : ℕ) : Type 0 where
  is : r < 34 → same x (word_of r) ≡ true

module _ (x : List ℕ) where
  none : Sound x 34
  none = record { is = λ h. absurd (omega arith) }

  hit : (w : ℕ) {word : List ℕ} {rest : ℕ} → word_of w ≡ word → Sound x rest → Sound x (if same x word then w else rest)
  hit w {word} {rest} e q = go (same x word) refl
    where
      go : (b : Bool) → same x word ≡ b → Sound x (if b then w else rest)
      go true t = record { is = λ h. rw e t }
      go false t = q

  either : (b : Bool) {r q : ℕ} → Sound x r → Sound x q → Sound x (if b then r else q)
  either true f g = f
  either false f g = g

  short : (b : ℕ) → Sound x (of_short b x)
  unfolding of_short numbered word_of vocabulary
  short b = either (eqb b 0x75) (hit 10 refl none) (either (eqb b 0x64) (hit 1 refl none) (hit 22 refl none))

  five : (b : ℕ) → Sound x (of_five b x)
  unfolding of_five numbered word_of vocabulary
  five b =
      either (eqb b 0x40) (hit 0 refl none) (either (eqb b 0x73) (hit 3 refl none) (either (eqb b 0x74) (hit 7 refl none)
      (either (eqb b 0x75) (hit 27 refl none) (either (eqb b 0x63) (hit 28 refl none) (hit 23 refl none)))))

  seven : (b : ℕ) → Sound x (of_seven b x)
  unfolding of_seven numbered word_of vocabulary
  seven b =
      either (eqb b 0x75) (hit 11 refl none) (either (eqb b 0x70) (hit 13 refl none) (either (eqb b 0x72) (hit 21 refl none)
      (hit 31 refl (hit 25 refl none))))

  eight : (b : ℕ) → Sound x (of_eight b x)
  unfolding of_eight numbered word_of vocabulary
  eight b =
      either (eqb b 0x74) (hit 12 refl none) (either (eqb b 0x64) (hit 4 refl none) (either (eqb b 0x69) (hit 19 refl none)
      (either (eqb b 0x65) (hit 9 refl none) (hit 30 refl (hit 32 refl (hit 33 refl none))))))

  twelve : (b : ℕ) → Sound x (of_twelve b x)
  unfolding of_twelve numbered word_of vocabulary
  twelve b =
      either (eqb b 0x66) (hit 18 refl none) (either (eqb b 0x64) (hit 8 refl none) (either (eqb b 0x6E) (hit 2 refl none)
      (either (eqb b 0x72) (hit 17 refl none) (hit 24 refl (hit 29 refl none)))))

  long : (b : ℕ) → Sound x (of_long b x)
  unfolding of_long numbered word_of vocabulary
  long b =
      either (eqb b 0x73) (hit 6 refl none) (either (eqb b 0x62) (hit 26 refl none) (either (eqb b 0x65) (hit 15 refl none)
      (hit 14 refl (hit 16 refl (hit 5 refl (hit 20 refl none))))))

  sound : (n b : ℕ) → Sound x (number_by n b x)
  unfolding number_by
  sound n b =
      either (ltb n 5) (short b) (either (eqb n 5) (five b) (either (ltb n 8) (seven b) (either (eqb n 8) (eight b)
      (either (ltb n 13) (twelve b) (long b)))))

-- Each word has bytes, and its own number is found for it.
abbrev filled : ℕ → Bool
filled w = ltb 0 (length (word_of w))

abbrev found : ℕ → Bool
found w = eqb (number_by (length (word_of w)) (get_or (word_of w) 0 0) (word_of w)) w

word-filled : (w : ℕ) → w < 34 → T (filled w)
unfolding word_of vocabulary
word-filled w h = all-below filled 34 tt w h

word-found : (w : ℕ) → w < 34 → T (found w)
unfolding word_of vocabulary number_by of_short of_five of_seven of_eight of_twelve of_long numbered same
word-found w h = all-below found 34 tt w h

first_byte : (n : ℕ) (s : List ℕ) (k : ℕ) → 0 < n → get_or (bytes_at n s (k + 1)) 0 0 ≡ byte s (ahead s k)
unfolding bytes_at
first_byte zero s k h = absurd (omega arith)
first_byte (suc n) s k h = ap (λ (l : List ℕ). get_or l 0 0) (bytes-ahead (suc n) s k)

number-own : (s : List ℕ) (k j w : ℕ) → w < 34 → raw_at s k j ≡ word_of w → number_at s k j ≡ w
unfolding number_at raw_at
number-own s k j w h e =
    let n : length (word_of w) ≡ within k j = ap length (sym e) ∙ length-bytes (within k j) s (k + 1) in
    let p : 1 ≤ length (word_of w) = leb→le 1 (length (word_of w)) (word-filled w h) in
    let q : 0 < within k j = omega arith in
    let f : get_or (word_of w) 0 0 ≡ byte s (ahead s k) = ap (λ (l : List ℕ). get_or l 0 0) (sym e) ∙ first_byte (within k j) s k q in
    rw (e, ← f, ← n) (eqb→eq _ w (word-found w h))

-- The name from k to j is the word of w just where w is its number.
pub number-says : (s : List ℕ) (k j w : ℕ) → w < 34 → same (raw_at s k j) (word_of w) ≡ eqb (number_at s k j) w
unfolding number_at
number-says s k j w h = go (same (raw_at s k j) (word_of w)) refl
  where
    other : same (raw_at s k j) (word_of w) ≡ false → (b : Bool) → eqb (number_at s k j) w ≡ b → false ≡ b
    other t true e =
        let f : number_at s k j ≡ w = eqb-true (number_at s k j) w e in
        let g : number_at s k j < 34 = omega arith in
        sym t ∙ (rw f at ((sound (raw_at s k j) (within k j) (byte s (ahead s k))).is g))
    other t false e = refl

    go : (b : Bool) → same (raw_at s k j) (word_of w) ≡ b → b ≡ eqb (number_at s k j) w
    go true t = sym (eq-eqb (number_at s k j) w (number-own s k j w h (same-eq (raw_at s k j) (word_of w) t)))
    go false t = other t (eqb (number_at s k j) w) refl
