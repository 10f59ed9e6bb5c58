-- Laws of the walk over the members of an object: what it finds together with equal names is what is at fault in the object.
use Rattle.std.specs.Prelude.{if◌then◌else◌}
use Rattle.std.proofs.Common.{◌≡◌, ℕ, zero, suc, Bool, true, false, eqb, List, [], ◌∷◌, sym, refl}
use Rattle.json_text.specs.Bytes.{byte}
use Rattle.json_walk.specs.Walk.{members_of, elements_of}
use Rattle.json_walk.specs.Strings.{slashed}
use Rattle.json_walk.specs.declared.Member.{Member}
use Rattle.json_names.specs.Inner.Names.{name_of, any_slashed, any_member, any_element, bad_names, object_fault, fault_at, repeats}
use Rattle.json_names.specs.Inner.Walked.{opener, any_fault}
use Rattle.json_names.proofs.Sorting.{not-both}

-- The order of the questions does not matter.
either : (a b x y : Bool) → (if a then true else if x then true else if b then true else y) ≡ (if (if a then true else b) then true else if x then true else y)
either true b x y = refl
either false true true y = refl
either false true false y = refl
either false false true y = refl
either false false false y = refl

apart : (p : ℕ → Bool) (s : List ℕ) (ms : List Member) → any_fault p s ms ≡ (if any_slashed s ms then true else any_member p ms)
unfolding any_fault any_slashed any_member
apart p s [] = refl
apart p s (m ∷ ms) = rw (apart p s ms) (either (slashed (name_of s m)) (any_slashed s ms) (p m.value) (any_member p ms))

turned : (a b c : Bool) → (if (if a then true else b) then true else c) ≡ (if (if a then true else c) then true else b)
turned true b c = refl
turned false true true = refl
turned false true false = refl
turned false false true = refl
turned false false false = refl

pub object-fault : (p : ℕ → Bool) (s : List ℕ) (i : ℕ) → object_fault p s i ≡ (if any_fault p s (members_of s i) then true else repeats s (members_of s i))
unfolding object_fault bad_names
object-fault p s i = rw (apart p s (members_of s i)) (turned (any_slashed s (members_of s i)) (repeats s (members_of s i)) (any_member p (members_of s i)))

none : (b : ℕ) (o a : Bool) → opener b ≡ false → (if eqb b 0x7B then o else if eqb b 0x5B then a else false) ≡ false
unfolding opener
none b o a h = go (eqb b 0x7B) (eqb b 0x5B) h
  where
    go : (x y : Bool) → (if x then true else y) ≡ false → (if x then o else if y then a else false) ≡ false
    go true y e = not-both (sym e)
    go false true e = not-both (sym e)
    go false false e = refl

-- A value that holds no other is not at fault.
pub closed : (s : List ℕ) (i : ℕ) → opener (byte s i) ≡ false → (l : ℕ) → fault_at l s i ≡ false
unfolding fault_at
closed s i h zero = refl
closed s i h (suc l) = none (byte s i) (object_fault (λ v. fault_at l s v) s i) (any_element (λ v. fault_at l s v) (elements_of s i)) h
