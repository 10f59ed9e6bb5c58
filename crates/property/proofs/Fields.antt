-- A member by its place is the tree's. Past the end of a text no object has members.
use Rattle.std.specs.Prelude as std
use Rattle.std.specs.Prelude.{if◌then◌else◌, Some, None}
use Prim.Native.Nat.{ℕ, ◌+◌, ◌≤◌}
use mathlib.Core.List.{List, []}
use mathlib.Core.Option.{Option, none, some}
use mathlib.Core.Path.{◌≡◌, refl}
use native.Mathlib.Omega.{arith}
use lib.ListN.{length, drop_of_length-le, get_or-eq_default}
use Rattle.json_text.specs.Bytes.{run, past, space_at}
use Rattle.json_text.specs.Strings.{string_at}
use Rattle.json_value.specs.Values.{first_at}
use Rattle.json_walk.proofs.Walks.{members-end}
use Rattle.json_walk.specs.Walk.{member_at, first_member_at, members_of}
use Rattle.json_walk.specs.declared.Member.{Member}
use Rattle.json_tree.proofs.Trees.{find-tree}
use Rattle.json_tree.specs.Inner.Members.{find_in, value_found}
use Rattle.json_tree.specs.Tree.{Json, fields_of, tree_at}
use Rattle.event.specs.Values.{as_option, member}

space-past : (s : List ℕ) (i : ℕ) → length s ≤ i → space_at s i ≡ i
unfolding space_at past run
space-past s i h = rw (drop_of_length-le s h) (omega arith)

pub first_past : (s : List ℕ) (i : ℕ) → length s ≤ i → first_member_at s i ≡ None
unfolding first_member_at first_at member_at string_at
first_past s i h =
    let p : length s ≤ i + 1 = omega arith in
    rw (space-past s (i + 1) p, get_or-eq_default s 0 p) (rw (get_or-eq_default s 0 p))

pub no-members : (s : List ℕ) (i : ℕ) → length s ≤ i → members_of s i ≡ []
unfolding members_of
no-members s i h = rw (first_past s i h) (members-end (length s) s)

-- What was found, as the tree's value.
abbrev pub found_in : ℕ → List ℕ → std.Option Member → Option Json
found_in l s (Some m) = some (tree_at l s m.value)
found_in l s None = none

pub member-tree : (l : ℕ) (s name : List ℕ) (ms : List Member) → member name (fields_of (λ v. tree_at l s v) s ms) ≡ found_in l s (find_in s name ms)
unfolding member
member-tree l s name ms = rw (find-tree (λ v. tree_at l s v) s name ms) (go (find_in s name ms))
  where
    go : (f : std.Option Member) → as_option (value_found (λ v. tree_at l s v) f) ≡ found_in l s f
    go (Some m) = refl
    go None = refl
