-- The number that a single value is judged with is 0, or one of 7 to 9 and 20 to 26.
use Rattle.std.specs.Prelude.{if◌then◌else◌}
use Prim.Native.Nat.{ℕ, zero, suc, ◌+◌, ◌-◌, ◌*◌}
use mathlib.Core.Bool.{Bool, true, false, ◌&&◌, ◌||◌}
use mathlib.Core.List.{List, [], ◌∷◌}
use mathlib.Core.Option.{Option, none, some}
use mathlib.Core.Path.{◌≡◌, refl}
use lib.Dec.{eqb, leb, ltb}
use lib.IntN.{ℤ, pos, negsuc, nat_abs}
use lib.ListN.{length, take, drop}
use Rattle.digits.specs.Fraction.{legal_fraction}
use Rattle.json_text.specs.Ascii.{ascii}
use Rattle.json_text.specs.Bytes.{byte}
use Rattle.json_walk.specs.Strings.{same, slashed}
use Rattle.json_tree.specs.Tree.{Json}
use Rattle.std.specs.Prelude as std
use Rattle.json_tree.specs.declared.Integer.{Integer}
use Rattle.keywords.specs.Rules.{frequency_of, weekday_of, skip_fault, rscale_fault}
use Rattle.keywords.specs.Months.{month_written, month_of}
use Rattle.keywords.specs.Marks.{free_busy_of}
use Rattle.keywords.specs.declared.Rate.{Rate}
use Rattle.keywords.specs.declared.Named.{Named}
use Rattle.keywords.specs.declared.FreeBusy.{FreeBusy}
use Rattle.date_time.specs.declared.DateTime.{DateTime}
use Rattle.date_time.specs.Local.{is_local, fraction_fault, local_of}
use Rattle.date_time.specs.Utc.{is_utc}
use Rattle.duration_grammar.specs.Grammar.{is_duration}
use Rattle.duration.specs.declared.Span.{Span}
use Rattle.duration.specs.Length.{limit, point_at, days_of, seconds_of, whole_of, fraction_of, length_of}
use Rattle.event.specs.Types.{Text}
use Rattle.event.specs.Values.{is_null, boolean, string, number, as_integer, of_word, of_integer}
use Rattle.event.specs.Reading.{Reading, or_wrong, optional, required, maybe}
use Rattle.event.specs.Properties
use Rattle.event.specs.Properties.{filled, read_uid, read_updated, from_local, date_time, read_start, read_until, read_zone, from_span, read_length, from_status, read_busy, read_boolean, read_privacy, read_text, no_length}
use Rattle.event.specs.Rules.{from_rate, read_frequency, read_type, at_least_one, read_count, signed_up_to, read_signed, from_named, read_weekday, read_nth, read_month, read_scale, read_skip}
use Rattle.event.specs.Overrides.{patched, patched_start}

abbrev pub is_number : ℕ → Bool
is_number n = (leb 7 n && leb n 9) || (leb 20 n && leb n 26)

abbrev pub Told : ℕ → Type 0
Told n = (eqb n 0 || is_number n) ≡ true

-- ---- choices

module _ {A : Type 0} (P : A → Type 0) where
  pub pick : (t : Bool) (a b : A) → P a → P b → P (if t then a else b)
  pick true a b p q = p
  pick false a b p q = q

abbrev Right : {A : Type 0} → Reading A → Type 0
Right r = Told r.fault

module _ {A B : Type 0} (b : B) (n : ℕ) (t : Told n) (f : A → Reading B) (h : (a : A) → Right (f a)) where
  or-wrong : (o : Option A) → Right (or_wrong b n f o)
  unfolding or_wrong
  or-wrong none = t
  or-wrong (some a) = h a

module _ {B : Type 0} (b : B) where
  of_word_lem : (f : List ℕ → Reading B) → ((raw : List ℕ) → Right (f raw)) → (v : Json) → Right (of_word b f v)
  unfolding of_word
  of_word_lem f h v = or-wrong b 20 refl _ (λ (t : Text). pick Right (slashed t.raw) _ _ refl (h t.raw)) (string v)

  of-integer : (f : ℤ → Reading B) → ((z : ℤ) → Right (f z)) → (v : Json) → Right (of_integer b f v)
  unfolding of_integer
  of-integer f h v = or-wrong b 20 refl _ (λ (n : std.Option Integer). or-wrong b 23 refl f h (as_integer n)) (number v)

module _ {A : Type 0} (a : A) (f : Json → Reading A) (h : (v : Json) → Told (f v).fault) where
  pub if-there : (o : Option Json) → Told (optional a f o).fault
  unfolding optional
  if-there none = refl
  if-there (some v) = h v

  pub must-be : (o : Option Json) → Told (required a f o).fault
  unfolding required
  must-be none = refl
  must-be (some v) = h v

  pub patch-of : (own : A) (o : Option Json) → Told (patched own a f o).fault
  unfolding patched
  patch-of own none = refl
  patch-of own (some v) = pick Right (is_null v) _ _ refl (h v)

  pub may-be : (o : Option Json) → Told (maybe f o).fault
  unfolding maybe
  may-be none = refl
  may-be (some v) = h v

-- ---- the words

abbrev Rated : Rate → Type 0
Rated r = Told (from_rate r).fault

rate-fault : (s : List ℕ) → Rated (frequency_of s)
unfolding frequency_of
rate-fault s =
    pick Rated (same s (ascii "daily")) _ _ refl
    (pick Rated (same s (ascii "weekly")) _ _ refl
    (pick Rated (same s (ascii "monthly")) _ _ refl
    (pick Rated (same s (ascii "yearly")) _ _ refl
    (pick Rated (same s (ascii "hourly")) _ _ refl (pick Rated (same s (ascii "minutely")) _ _ refl (pick Rated (same s (ascii "secondly")) _ _ refl refl))))))

abbrev NamedOk : Named → Type 0
NamedOk n = Told (from_named n).fault

weekday-fault : (s : List ℕ) → NamedOk (weekday_of s)
unfolding weekday_of
weekday-fault s =
    pick NamedOk (same s (ascii "mo")) _ _ refl
    (pick NamedOk (same s (ascii "tu")) _ _ refl
    (pick NamedOk (same s (ascii "we")) _ _ refl
    (pick NamedOk (same s (ascii "th")) _ _ refl
    (pick NamedOk (same s (ascii "fr")) _ _ refl (pick NamedOk (same s (ascii "sa")) _ _ refl (pick NamedOk (same s (ascii "su")) _ _ refl refl))))))

month-fault : (s : List ℕ) → NamedOk (month_of s)
unfolding month_of
month-fault s =
    pick NamedOk (leb 1 (month_written s)) _ _ refl
    (pick NamedOk (eqb (length s) 0) _ _ refl
    (pick NamedOk (eqb (byte s (length s - 1)) 0x4C) _ _ (pick NamedOk (leb 1 (month_written (take (length s - 1) s))) _ _ refl refl) refl))

skip-fault : (s : List ℕ) → Told (skip_fault s)
unfolding skip_fault
skip-fault s = pick Told (same s (ascii "omit")) _ _ refl (pick Told (same s (ascii "forward")) _ _ refl (pick Told (same s (ascii "backward")) _ _ refl refl))

scale-fault : (s : List ℕ) → Told (rscale_fault s)
unfolding rscale_fault
scale-fault s = pick Told (same s (ascii "gregorian")) _ _ refl refl

abbrev StatusOk : FreeBusy → Type 0
StatusOk f = Told (from_status f).fault

status-fault : (s : List ℕ) → StatusOk (free_busy_of s)
unfolding free_busy_of
status-fault s = pick StatusOk (same s (ascii "free")) _ _ refl (pick StatusOk (same s (ascii "busy")) _ _ refl refl)

-- ---- date-times and durations

abbrev LocalOk : DateTime → Type 0
LocalOk d = Told (from_local d).fault

fraction-fault : (s : List ℕ) → Told (fraction_fault s)
unfolding fraction_fault
fraction-fault s = pick Told (eqb (byte s 19) 0x2E) _ _ (pick Told (legal_fraction (drop 20 s)) _ _ refl refl) refl

pub local-fault : (last : ℕ) (s : List ℕ) → LocalOk (local_of last s)
unfolding local_of
local-fault last s = pick LocalOk (is_local last s) _ _ (pick LocalOk (eqb (length s) 19) _ _ refl (fraction-fault s)) refl

abbrev SpanOk : Span → Type 0
SpanOk d = Told (from_span d).fault

span-fault : (s : List ℕ) → SpanOk (length_of s)
unfolding length_of fraction_of whole_of
span-fault s =
    pick SpanOk (is_duration s) _ _
    (pick SpanOk (ltb (point_at s) (length s)) _ _
    (pick SpanOk (legal_fraction (take (length s - 1 - (point_at s + 1)) (drop (point_at s + 1) s))) _ _
    (pick SpanOk (leb limit (86400 * days_of s + seconds_of 0x2E s)) _ _ refl refl) refl)
    (pick SpanOk (ltb limit (86400 * days_of s + seconds_of 0x53 s)) _ _ refl refl))
    refl

-- ---- the properties

abbrev pub Read : {A : Type 0} → (Json → Reading A) → Type 0
Read f = (v : Json) → Told (f v).fault

pub uid-fault : Read read_uid
unfolding read_uid filled
uid-fault v = of_word_lem [] filled by v
  where
    by : (raw : List ℕ) → Told (filled raw).fault
    by [] = refl
    by (b ∷ raw) = refl

pub updated-fault : Read read_updated
unfolding read_updated
updated-fault v = of_word_lem true _ (λ raw. pick Right (is_utc raw) _ _ refl refl) v

pub start-fault : Read read_start
unfolding read_start date_time
start-fault v = of_word_lem 0 date_time (local-fault 9998) v

pub until-fault : Read read_until
unfolding read_until
until-fault v = of_word_lem 0 _ (local-fault 9999) v

pub zone-fault : Read read_zone
unfolding read_zone Properties.named
zone-fault v = pick Right (is_null v) _ _ refl (of_word_lem none Properties.named by v)
  where
    by : (raw : List ℕ) → Told (Properties.named raw).fault
    by [] = refl
    by (b ∷ raw) = refl

pub length-fault : Read read_length
unfolding read_length
length-fault v = of_word_lem no_length _ span-fault v

pub busy-fault : Read read_busy
unfolding read_busy
busy-fault v = of_word_lem true _ status-fault v

pub boolean-fault : Read read_boolean
unfolding read_boolean
boolean-fault v = or-wrong false 20 refl _ (λ b. refl) (boolean v)

pub privacy-fault : Read read_privacy
unfolding read_privacy
privacy-fault v = of_word_lem _ _ (λ raw. refl) v

pub text-fault : Read read_text
unfolding read_text
text-fault v = or-wrong none 20 refl _ (λ t. refl) (string v)

-- ---- the values of a rule

pub frequency-fault : Read read_frequency
unfolding read_frequency
frequency-fault v = of_word_lem _ _ rate-fault v

pub type-fault : (name : List ℕ) → Read (read_type name)
unfolding read_type
type-fault name v = of_word_lem _ _ (λ raw. pick Right (same raw name) _ _ refl refl) v

pub count-fault : Read read_count
unfolding read_count
count-fault v = of-integer 1 at_least_one by v
  where
    by : (z : ℤ) → Right (at_least_one z)
    by (pos zero) = unfold at_least_one in refl
    by (pos (suc n)) = unfold at_least_one in refl
    by (negsuc n) = unfold at_least_one in refl

pub signed-fault : (most : ℕ) → Read (read_signed most)
unfolding read_signed signed_up_to
signed-fault most v = of-integer _ (signed_up_to most) (λ z. pick Right (leb 1 (nat_abs z) && leb (nat_abs z) most) _ _ refl refl) v

pub day-fault : Read read_weekday
unfolding read_weekday
day-fault v = of_word_lem 0 _ weekday-fault v

pub nth-fault : (o : Option Json) → Right (read_nth o)
unfolding read_nth
nth-fault o = may-be (pos 0) (read_signed 53) (signed-fault 53) o

pub number-fault : Read read_month
unfolding read_month
number-fault v = of_word_lem 0 _ month-fault v

pub rscale-fault : Read read_scale
unfolding read_scale
rscale-fault v = of_word_lem true _ scale-fault v

pub omit-fault : Read read_skip
unfolding read_skip
omit-fault v = of_word_lem true _ skip-fault v

-- ---- a patch's start

pub moved-fault : (id : ℕ) (o : Option Json) → Right (patched_start id o)
unfolding patched_start
moved-fault id none = refl
moved-fault id (some v) = start-fault v
