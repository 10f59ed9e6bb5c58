-- A number of each width by its bytes: what a body gives that reads or stores them one by one. The must-fail edits plant such bodies: the
-- right one is found by these laws, so that a wrong one is refused for what it reads or stores.
use Rattle.std.proofs.Common.{◌≡◌, ℕ, suc, ◌+◌, ◌*◌, ◌≤◌, List, [], ◌∷◌, length, get_or, set, arith}
use Rattle.std.proofs.Math.Numerals.{add-one}
use Rattle.std.proofs.lemmas.List.Edits.{sets}
use Rattle.little_endian.specs.Bytes.{number_at, AllBytes}
use Rattle.little_endian.specs.Inner.Reads.{Reads}
use Rattle.little_endian.proofs.BackLaws.{number-below}
use Rattle.little_endian.proofs.ReadLaws.{number-join, number-one}

-- ---- reading

number-two : (i j : ℕ) (s : List ℕ) → j ≡ i + 1 → i + 2 ≤ length s → number_at 2 i s ≡ get_or s i 0 + 256 * get_or s j 0
number-two i j s e h =
    let low = number-one i s (omega arith) in
    let high = number-one j s (omega arith) in
    let both = rw (← e) at (number-join 1 1 i s (omega arith)) in
    omega arith

number-four : (i j k m : ℕ) (s : List ℕ) → j ≡ i + 1 → k ≡ i + 2 → m ≡ i + 3 → i + 4 ≤ length s
    → number_at 4 i s ≡ get_or s i 0 + 256 * get_or s j 0 + 65536 * (get_or s k 0 + 256 * get_or s m 0)
number-four i j k m s e f g h =
    let low = number-two i j s e (omega arith) in
    let high = number-two k m s (omega arith) (omega arith) in
    let both = rw (← f) at (number-join 2 2 i s (omega arith)) in
    omega arith

module _ (n i : ℕ) (s : List ℕ) (r : ℕ) where
  reads : AllBytes s → i + n ≤ length s → r ≡ number_at n i s → Reads n i s r
  reads b h e = record { is = e; within = rw e (number-below n i s b h) }

  pub one : n ≡ 1 → AllBytes s → i + 1 ≤ length s → r ≡ get_or s i 0 → Reads n i s r
  one e b h f =
      let byte = number-one i s (omega arith) in
      reads b (omega arith) (rw e (omega arith))

  pub two : n ≡ 2 → AllBytes s → i + 2 ≤ length s → r ≡ get_or s i 0 + 256 * get_or s (i + 1) 0 → Reads n i s r
  two e b h f =
      let all = number-two i (i + 1) s (omega arith) h in
      reads b (omega arith) (rw e (omega arith))

  pub three : n ≡ 3 → AllBytes s → i + 3 ≤ length s
      → r ≡ get_or s i 0 + 256 * (get_or s (i + 1) 0 + 256 * get_or s (i + 2) 0) → Reads n i s r
  three e b h f =
      let low = number-one i s (omega arith) in
      let high = number-two (i + 1) (i + 2) s (omega arith) (omega arith) in
      let both = number-join 1 2 i s (omega arith) in
      reads b (omega arith) (rw e (omega arith))

  pub four : n ≡ 4 → AllBytes s → i + 4 ≤ length s
      → r ≡ get_or s i 0 + 256 * get_or s (i + 1) 0 + 65536 * (get_or s (i + 2) 0 + 256 * get_or s (i + 3) 0) → Reads n i s r
  four e b h f =
      let all = number-four i (i + 1) (i + 2) (i + 3) s (omega arith) (omega arith) (omega arith) h in
      reads b (omega arith) (rw e (omega arith))

  pub eight : n ≡ 8 → AllBytes s → i + 8 ≤ length s
      → r ≡ (get_or s i 0 + 256 * get_or s (i + 1) 0 + 65536 * (get_or s (i + 2) 0 + 256 * get_or s (i + 3) 0))
      + 4294967296 * (get_or s (i + 4) 0 + 256 * get_or s (i + 5) 0 + 65536 * (get_or s (i + 6) 0 + 256 * get_or s (i + 7) 0)) → Reads n i s r
  eight e b h f =
      let low = number-four i (i + 1) (i + 2) (i + 3) s (omega arith) (omega arith) (omega arith) (omega arith) in
      let high = number-four (i + 4) (i + 5) (i + 6) (i + 7) s (omega arith) (omega arith) (omega arith) (omega arith) in
      let both = number-join 4 4 i s (omega arith) in
      reads b (omega arith) (rw e (omega arith))

pub ruleset read_by_bytes = (one, two, three, four, eight)

-- ---- storing

pub stored_two : (at : ℕ) (l bytes : List ℕ) (a b : ℕ) → length bytes ≡ 2 → a ≡ get_or bytes 0 0 → b ≡ get_or bytes 1 0
    → set (set l at a) (at + 1) b ≡ sets l at bytes
stored_two at l [] a b len ea eb = absurd (omega arith)
stored_two at l (x0 ∷ []) a b len ea eb = absurd (omega arith)
stored_two at l (x0 ∷ x1 ∷ []) a b len ea eb =
    rw (ea, eb, add-one)
stored_two at l (x0 ∷ x1 ∷ x2 ∷ xs) a b len ea eb = absurd (omega arith)

pub stored_four : (at : ℕ) (l bytes : List ℕ) (a b c d : ℕ) → length bytes ≡ 4 → a ≡ get_or bytes 0 0 → b ≡ get_or bytes 1 0 → c ≡ get_or bytes 2 0 → d ≡ get_or bytes 3 0
    → set (set (set (set l at a) (at + 1) b) (at + 2) c) (at + 3) d ≡ sets l at bytes
stored_four at l [] a b c d len ea eb ec ed = absurd (omega arith)
stored_four at l (x0 ∷ []) a b c d len ea eb ec ed = absurd (omega arith)
stored_four at l (x0 ∷ x1 ∷ []) a b c d len ea eb ec ed = absurd (omega arith)
stored_four at l (x0 ∷ x1 ∷ x2 ∷ []) a b c d len ea eb ec ed = absurd (omega arith)
stored_four at l (x0 ∷ x1 ∷ x2 ∷ x3 ∷ []) a b c d len ea eb ec ed =
    let p2 : at + 2 ≡ suc (suc at) = omega arith in
    let p3 : at + 3 ≡ suc (suc (suc at)) = omega arith in
    rw (ea, eb, ec, ed, add-one, p2, p3)
stored_four at l (x0 ∷ x1 ∷ x2 ∷ x3 ∷ x4 ∷ xs) a b c d len ea eb ec ed = absurd (omega arith)

pub stored_eight : (at : ℕ) (l bytes : List ℕ) (a b c d e f g h : ℕ) → length bytes ≡ 8 → a ≡ get_or bytes 0 0 → b ≡ get_or bytes 1 0 → c ≡ get_or bytes 2 0 → d ≡ get_or bytes 3 0 → e ≡ get_or bytes 4 0 → f ≡ get_or bytes 5 0 → g ≡ get_or bytes 6 0 → h ≡ get_or bytes 7 0
    → set (set (set (set (set (set (set (set l at a) (at + 1) b) (at + 2) c) (at + 3) d) (at + 4) e) (at + 5) f) (at + 6) g) (at + 7) h ≡ sets l at bytes
stored_eight at l [] a b c d e f g h len ea eb ec ed ee ef eg eh = absurd (omega arith)
stored_eight at l (x0 ∷ []) a b c d e f g h len ea eb ec ed ee ef eg eh = absurd (omega arith)
stored_eight at l (x0 ∷ x1 ∷ []) a b c d e f g h len ea eb ec ed ee ef eg eh = absurd (omega arith)
stored_eight at l (x0 ∷ x1 ∷ x2 ∷ []) a b c d e f g h len ea eb ec ed ee ef eg eh = absurd (omega arith)
stored_eight at l (x0 ∷ x1 ∷ x2 ∷ x3 ∷ []) a b c d e f g h len ea eb ec ed ee ef eg eh = absurd (omega arith)
stored_eight at l (x0 ∷ x1 ∷ x2 ∷ x3 ∷ x4 ∷ []) a b c d e f g h len ea eb ec ed ee ef eg eh = absurd (omega arith)
stored_eight at l (x0 ∷ x1 ∷ x2 ∷ x3 ∷ x4 ∷ x5 ∷ []) a b c d e f g h len ea eb ec ed ee ef eg eh = absurd (omega arith)
stored_eight at l (x0 ∷ x1 ∷ x2 ∷ x3 ∷ x4 ∷ x5 ∷ x6 ∷ []) a b c d e f g h len ea eb ec ed ee ef eg eh = absurd (omega arith)
stored_eight at l (x0 ∷ x1 ∷ x2 ∷ x3 ∷ x4 ∷ x5 ∷ x6 ∷ x7 ∷ []) a b c d e f g h len ea eb ec ed ee ef eg eh =
    let p2 : at + 2 ≡ suc (suc at) = omega arith in
    let p3 : at + 3 ≡ suc (suc (suc at)) = omega arith in
    let p4 : at + 4 ≡ suc (suc (suc (suc at))) = omega arith in
    let p5 : at + 5 ≡ suc (suc (suc (suc (suc at)))) = omega arith in
    let p6 : at + 6 ≡ suc (suc (suc (suc (suc (suc at))))) = omega arith in
    let p7 : at + 7 ≡ suc (suc (suc (suc (suc (suc (suc at)))))) = omega arith in
    rw (ea, eb, ec, ed, ee, ef, eg, eh, add-one, p2, p3, p4, p5, p6, p7)
stored_eight at l (x0 ∷ x1 ∷ x2 ∷ x3 ∷ x4 ∷ x5 ∷ x6 ∷ x7 ∷ x8 ∷ xs) a b c d e f g h len ea eb ec ed ee ef eg eh = absurd (omega arith)

pub ruleset stored_by_bytes = (stored_two, stored_four, stored_eight)
