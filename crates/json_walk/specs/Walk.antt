-- The members of an object and the elements of an array, by their places in a text that is known to be JSON.
use Rattle.std.specs.Prelude.{ℕ, zero, suc, ◌+◌, List, [], ◌∷◌, length, Result, Ok, Err, Option, Some, None}
use Rattle.json_text.specs.Strings.{string_at}
use Rattle.json_text.specs.declared.SyntaxError.{SyntaxError}
use Rattle.json_value.specs.Values.{after_at, first_at, colon_at, value_at, levels}
use Rattle.json_value.specs.declared.Item.{Item}
use Rattle.json_value.specs.declared.Item.TheVariants.{More, Done}
use Rattle.json_walk.specs.declared.Member.{Member}
use Rattle.json_walk.specs.declared.Element.{Element}

abbrev pub member_to : Result ℕ SyntaxError → (ℕ → Option Member) → Option Member
member_to (Ok j) f = f j
member_to (Err e) f = None

-- member = string name-separator value, with its name at k
unfoldable pub member_at : List ℕ → ℕ → Option Member
member_at s k =
    member_to (string_at s k) (λ j.
    member_to (colon_at s j) (λ v.
    member_to (value_at levels s v) (λ e.
    Some (record { name = k; stop = j; value = v; after = e }))))

abbrev pub member_more : Result Item SyntaxError → (ℕ → Option Member) → Option Member
member_more (Ok (More k)) f = f k
member_more (Ok (Done e)) f = None
member_more (Err e) f = None

-- The first member of the object whose bracket stands at i, and the member that follows one that ends at i.
unfoldable pub first_member_at : List ℕ → ℕ → Option Member
first_member_at s i = member_more (Ok (first_at 0x7D s (i + 1))) (λ k. member_at s k)

unfoldable pub next_member_at : List ℕ → ℕ → Option Member
next_member_at s i = member_more (after_at 0x7D s i) (λ k. member_at s k)

-- A member and those that follow it, at most n.
unfoldable pub members_from : ℕ → List ℕ → Option Member → List Member
members_from zero s step = []
members_from (suc n) s (Some m) = m ∷ members_from n s (next_member_at s m.after)
members_from (suc n) s None = []

-- The members of the object whose bracket stands at i. A text has fewer members than bytes.
unfoldable pub members_of : List ℕ → ℕ → List Member
members_of s i = members_from (length s) s (first_member_at s i)

abbrev pub element_to : Result ℕ SyntaxError → (ℕ → Option Element) → Option Element
element_to (Ok j) f = f j
element_to (Err e) f = None

unfoldable pub element_at : List ℕ → ℕ → Option Element
element_at s k = element_to (value_at levels s k) (λ e. Some (record { value = k; after = e }))

abbrev pub element_more : Result Item SyntaxError → (ℕ → Option Element) → Option Element
element_more (Ok (More k)) f = f k
element_more (Ok (Done e)) f = None
element_more (Err e) f = None

-- The first element of the array whose bracket stands at i, and the element that follows one that ends at i.
unfoldable pub first_element_at : List ℕ → ℕ → Option Element
first_element_at s i = element_more (Ok (first_at 0x5D s (i + 1))) (λ k. element_at s k)

unfoldable pub next_element_at : List ℕ → ℕ → Option Element
next_element_at s i = element_more (after_at 0x5D s i) (λ k. element_at s k)

-- An element and those that follow it, at most n.
unfoldable pub elements_from : ℕ → List ℕ → Option Element → List Element
elements_from zero s _ = []
elements_from (suc n) s (Some e) = e ∷ elements_from n s (next_element_at s e.after)
elements_from (suc n) s None = []

-- The elements of the array whose bracket stands at i.
unfoldable pub elements_of : List ℕ → ℕ → List Element
elements_of s i = elements_from (length s) s (first_element_at s i)
