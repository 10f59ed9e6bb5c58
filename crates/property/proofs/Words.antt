-- A string by its place is the tree's.
use Rattle.std.specs.Prelude.{if◌then◌else◌}
use Prim.Native.Nat.{ℕ, ◌+◌, ◌-◌}
use mathlib.Core.Bool.{Bool, true, false}
use mathlib.Core.List.{List, []}
use mathlib.Core.Option.{none, some}
use mathlib.Core.Path.{◌≡◌, refl}
use native.Mathlib.Omega.{arith}
use lib.Dec.{eqb}
use borrow.Author.Tests.{eqb-true}
use Rattle.json_text.specs.Bytes.{byte}
use Rattle.json_walk.specs.Strings.{bytes_at, raw_at, slashed}
use Rattle.json_tree.proofs.Trees.{choose, always}
use Rattle.json_tree.specs.Tree.{tree_at}
use Rattle.json_tree.specs.Inner.Kinds.{kind_at}
use Rattle.event.specs.Values.{is_null, string}
use Rattle.property.specs.Inner.Words.{word_at}
use Rattle.property.proofs.Shapes.{is_string_kind, is_null_kind, string-kind, null-kind}

-- What was read to no place has no bytes, and so no backslash.
pub raw-none : (s : List ℕ) (i : ℕ) → raw_at s i 0 ≡ []
unfolding raw_at bytes_at
raw-none s i = let z : 0 - i - 2 ≡ 0 = omega arith in rw z

pub slashed-nothing : (s : List ℕ) (i : ℕ) → slashed (raw_at s i 0) ≡ false
unfolding slashed
slashed-nothing s i = rw (raw-none s i)

-- A test for one byte is not changed by asking for another before it.
skip : (b x y : ℕ) → eqb x y ≡ false → (if eqb b x then false else eqb b y) ≡ eqb b y
skip b x y e = go (eqb b x) refl
  where
    go : (c : Bool) → eqb b x ≡ c → (if c then false else eqb b y) ≡ eqb b y
    go true p = let q : b ≡ x = eqb-true b x p in rw (q, e)
    go false p = refl

truth : (c : Bool) → (if c then true else false) ≡ c
truth true = refl
truth false = refl

-- A value is a string where a quote stands, and null where its first letter does.
pub quoted : (s : List ℕ) (i : ℕ) → is_string_kind (kind_at s i) ≡ eqb (byte s i) 0x22
unfolding kind_at
quoted s i = simp (choose is_string_kind, always, truth) (rw (skip _ 0x5B 0x22 refl, skip _ 0x7B 0x22 refl))

null-letter : (s : List ℕ) (i : ℕ) → is_null_kind (kind_at s i) ≡ eqb (byte s i) 0x6E
unfolding kind_at
null-letter s i =
    simp (choose is_null_kind, always, truth)
    (rw (skip _ 0x66 0x6E refl, skip _ 0x22 0x6E refl, skip _ 0x5B 0x6E refl, skip _ 0x7B 0x6E refl))

pub null-tree : (l : ℕ) (s : List ℕ) (i : ℕ) → is_null (tree_at l s i) ≡ eqb (byte s i) 0x6E
null-tree l s i = rw (← (null-letter s i)) (null-kind l s i)

pub string-text : (l : ℕ) (s : List ℕ) (i : ℕ)
    → string (tree_at l s i) ≡ (if eqb (byte s i) 0x22 then some (record { at = i + 1; raw = word_at s i }) else none)
string-text l s i = rw (← (quoted s i)) (string-kind l s i)
