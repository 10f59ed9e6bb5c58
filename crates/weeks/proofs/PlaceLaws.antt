-- The code's way gives the places of request 1, and their tallies.
use Rattle.std.specs.Prelude.{if◌then◌else◌}
use Prim.Native.Nat.{ℕ, zero, suc, ◌<◌}
use mathlib.Core.Bool.{Bool, true, false, not, ◌&&◌}
use mathlib.Core.List.{List, [], ◌∷◌, map}
use mathlib.Core.Path.{◌≡◌, refl, sym, ap, ◌∙◌}
use native.Mathlib.Omega.{arith}
use native.Mathlib.Nat.{add-zero}
use lib.Dec.{ltb, eqb}
use lib.IntN.{ℤ, pos, negsuc}
use mir.Syntax.{w64}
use mir.Val.{SFits}
use borrow.Author.Tests.{lt-ltb}
use Rattle.little_endian.proofs.ReadLaws.{signed-fits}
use Rattle.rule.specs.Lists.{any, count_in}
use Rattle.rule.proofs.Counting.{count_same}
use Rattle.sheet.specs.Runs.{tabulate}
use Rattle.sheet.specs.Records.{Row, start_at, end_at, row_at}
use Rattle.sheet.specs.Reading.{rows_of, count_of}
use Rattle.sheet.proofs.RunLaws.{tab-same, tab-map}
use Rattle.weeks.specs.Weeks.{in_week, touches, is_reported, is_shut, is_missing, count, uploads_in, place_of}
use Rattle.weeks.specs.Inner.Marks.{up, span_of, span_at, larger, raise_all, sweep, peak}
use Rattle.weeks.specs.Inner.Places.{upload_all, class_of, in_class}
use Rattle.weeks.proofs.TouchLaws.{covers, touches-span}
use Rattle.weeks.proofs.SweepLaws.{larger-max, raise-all, reach-zero, sweep-tab}
use Rattle.weeks.proofs.UploadLaws.{or_uploads, uploaded, any-counts}

-- the numbers of every record fit an i64
pub record Fits (r : Row) : Type 0 where
  pub start : SFits w64 r.start
  pub end : SFits w64 r.end

abbrev pub RowsFit : List Row → Type 0
RowsFit [] = Unit {0}
RowsFit (r ∷ rs) = Fits r × RowsFit rs

rows-fit-from : (s : List ℕ) (k n : ℕ) → RowsFit (tabulate (row_at s) k n)
unfolding tabulate row_at start_at end_at
rows-fit-from s k zero = Prim.tt
rows-fit-from s k (suc n) = (record { start = signed-fits _; end = signed-fits _ }, rows-fit-from s (suc k) n)

pub rows_fit : (s : List ℕ) → RowsFit (rows_of s)
unfolding rows_of
rows_fit s = rows-fit-from s 0 (count_of s)

-- ---- shut or missing

-- 0 for a week that a record touches, 1 for another
abbrev absent : List Row → ℤ → ℕ → ℕ
absent rows from i = if any (touches from i) rows then 0 else 1

absent-is : (b : Bool) → (if b then negsuc 0 else negsuc 1) ≡ negsuc (if b then 0 else 1)
absent-is true = refl
absent-is false = refl

any-spans : (rows : List Row) (from : ℤ) (i : ℕ) → SFits w64 from → RowsFit rows → any (covers i) (map (span_of (up from)) rows) ≡ any (touches from i) rows
unfolding any
any-spans [] from i f a = refl
any-spans (r ∷ rs) from i f a = rw (touches-span from i r f a.0.start a.0.end, any-spans rs from i f a.1)

swept : (rows : List Row) (from : ℤ) (n : ℕ) → SFits w64 from → RowsFit rows
    → sweep 0 0 (raise_all (map (span_of (up from)) rows) (tabulate (λ i. pos 0) 0 n)) ≡ tabulate (λ i. negsuc (absent rows from i)) 0 n
swept rows from n f a =
    let ss = map (span_of (up from)) rows in
    ap (sweep 0 0) (raise-all ss (λ i. 0) n
    ∙ tab-same (λ i. pos (larger 0 (peak ss i))) (λ i. pos (peak ss i)) 0 n (λ j p q. ap pos (rw (larger-max 0 (peak ss j)) (omega arith))))
    ∙ (sweep-tab ss 0 0 n (rw (larger-max 0 (peak ss 0)) (omega (arith, reach-zero ss)))
    ∙ tab-same (λ i. if any (covers i) ss then negsuc 0 else negsuc 1) (λ i. negsuc (absent rows from i)) 0 n
    (λ j p q. rw (any-spans rows from j f a) (absent-is (any (touches from j) rows))))

-- ---- the place of a week, by its uploads first

by-uploads : (n : ℕ) (b : Bool) → or_uploads n (negsuc (if b then 0 else 1)) ≡ (if ltb 0 n then pos n else if not (ltb 0 n) && b then negsuc 0 else negsuc 1)
unfolding or_uploads
by-uploads zero true = refl
by-uploads zero false = refl
by-uploads (suc n) b = rw (lt-ltb 0 (suc n) (omega arith))

place-by : (log : List ℤ) (rows : List Row) (from : ℤ) (i : ℕ) → or_uploads (count (in_week from i) log) (negsuc (absent rows from i)) ≡ place_of log rows from i
unfolding place_of is_reported is_shut uploads_in
place-by log rows from i = rw (any-counts (in_week from i) log) (by-uploads (count (in_week from i) log) (any (touches from i) rows))

-- the whole way: zeros, spans, sweep, uploads
pub places_are : (log : List ℤ) (rows : List Row) (from : ℤ) (n : ℕ) → SFits w64 from → 0 < up from → RowsFit rows
    → upload_all (up from) log (sweep 0 0 (raise_all (map (span_of (up from)) rows) (tabulate (λ i. pos 0) 0 n))) ≡ tabulate (place_of log rows from) 0 n
unfolding or_uploads
places_are log rows from n f a b =
    ap (upload_all (up from) log) (swept rows from n f b)
    ∙ (uploaded from log n f a (λ i. 0) (absent rows from)
    ∙ tab-same _ (place_of log rows from) 0 n (λ j p q. rw (add-zero (count (in_week from j) log)) (place-by log rows from j)))

pub spans-are : (s : List ℕ) (b : ℕ) → tabulate (span_at s b) 0 (count_of s) ≡ map (span_of b) (rows_of s)
unfolding rows_of span_at
spans-are s b = sym (tab-map (span_of b) (row_at s) 0 (count_of s))

-- ---- the tallies, counted in the places

count-tab : {A : Type 0} (p : A → Bool) (f : ℕ → A) (k n : ℕ) → count p (tabulate f k n) ≡ count_in (λ i. p (f i)) k n
unfolding count tabulate count_in
count-tab p f k zero = refl
count-tab p f k (suc n) = rw (count-tab p f (suc k) n)

-- of a week that is reported (a), or that a record touches (t)
abbrev place : Bool → Bool → ℕ → ℤ
place a t c = if a then pos c else if not a && t then negsuc 0 else negsuc 1

class-reported : (a t : Bool) (c : ℕ) → eqb (class_of (place a t c)) 0 ≡ a
unfolding class_of
class-reported true t c = refl
class-reported false true c = refl
class-reported false false c = refl

class-shut : (a t : Bool) (c : ℕ) → eqb (class_of (place a t c)) 1 ≡ (not a && t)
unfolding class_of
class-shut true t c = refl
class-shut false true c = refl
class-shut false false c = refl

class-missing : (a t : Bool) (c : ℕ) → eqb (class_of (place a t c)) 2 ≡ (not a && not (not a && t))
unfolding class_of
class-missing true t c = refl
class-missing false true c = refl
class-missing false false c = refl

module _ (log : List ℤ) (rows : List Row) (from : ℤ) (n : ℕ) where
  tally : (c : ℕ) (p : ℕ → Bool) → ((i : ℕ) → in_class c (place_of log rows from i) ≡ p i) → count (in_class c) (tabulate (place_of log rows from) 0 n) ≡ count_in p 0 n
  tally c p h =
      count-tab (in_class c) (place_of log rows from) 0 n
      ∙ count_same (λ i. in_class c (place_of log rows from i)) p 0 n (λ j a b. h j)

  pub reported-tally : count (in_class 0) (tabulate (place_of log rows from) 0 n) ≡ count_in (is_reported log from) 0 n
  unfolding place_of is_shut
  reported-tally = tally 0 (is_reported log from) (λ i. class-reported (is_reported log from i) (any (touches from i) rows) (uploads_in log from i))

  pub shut-tally : count (in_class 1) (tabulate (place_of log rows from) 0 n) ≡ count_in (is_shut log rows from) 0 n
  unfolding place_of is_shut
  shut-tally = tally 1 (is_shut log rows from) (λ i. class-shut (is_reported log from i) (any (touches from i) rows) (uploads_in log from i))

  pub missing-tally : count (in_class 2) (tabulate (place_of log rows from) 0 n) ≡ count_in (is_missing log rows from) 0 n
  unfolding place_of is_shut is_missing
  missing-tally = tally 2 (is_missing log rows from) (λ i. class-missing (is_reported log from i) (any (touches from i) rows) (uploads_in log from i))
