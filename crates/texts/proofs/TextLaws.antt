-- The title or the description of details, by the places of both.
use Rattle.std.specs.Prelude.{if◌then◌else◌, Some, None}
use Prim.Native.Nat.{ℕ}
use mathlib.Core.Bool.{Bool, true, false}
use mathlib.Core.List.{List}
use mathlib.Core.Path.{◌≡◌, ap, ◌∙◌}
use Rattle.event.specs.Types.{Details, Override}
use Rattle.property.specs.Inner.From.{text_in}
use Rattle.property.specs.Inner.Place.{Place}
use Rattle.override_text.specs.declared.Own.{Own}
use Rattle.override_text.specs.declared.Patch.{Patch}
use Rattle.override_text.specs.Inner.Meaning.{details_in, override_in}
use Rattle.override_text.specs.Inner.Patched.{patch_at}
use Rattle.call_definitions.specs.Occurrence.{with_start}
use Rattle.writer.specs.Inner.Details.{patch_details, details_by, patch_of}
use Rattle.writer.proofs.DetailsLaws.{details-patched, details-own}
use Rattle.texts.specs.Inner.Shown.{chosen}

module _ (s : List ℕ) (title : Bool) (first second r : Place) (is : r ≡ (if title then first else second)) (d : Details) where
  choice : text_in s first ≡ d.title → text_in s second ≡ d.description → text_in s r ≡ chosen title d
  choice p q = ap (text_in s) is ∙ go title
    where
      go : (b : Bool) → text_in s (if b then first else second) ≡ chosen b d
      go true = p
      go false = q

module _ (s : List ℕ) (title : Bool) (own : Details) (at id : ℕ) (p : Patch) (e : override_in s id p ≡ (patch_at 13 own id s at).value) (r : Place) where
  pub patch-text : r ≡ (if title then p.title else p.description) → text_in s r ≡ chosen title (patch_details own s at id)
  patch-text is =
      choice s title p.title p.description r is (patch_details own s at id)
      (ap (λ (o : Override). o.details.title) e) (ap (λ (o : Override). o.details.description) e)

module _ (s : List ℕ) (title : Bool) (o : Own) (x : ℕ) (d : Details) (e : with_start (details_in s o) x ≡ d) (r : Place) where
  pub own-text : r ≡ (if title then o.title else o.description) → text_in s r ≡ chosen title d
  unfolding with_start
  own-text is =
      choice s title o.title o.description r is d (ap (λ (u : Details). u.title) e) (ap (λ (u : Details). u.description) e)

-- The details of x, where y was looked for, which is x.
module _ (s : List ℕ) (own : Details) (x y : ℕ) (ids places : List ℕ) where
  pub asked-patched : (at : ℕ) → Some at ≡ patch_of ids places y → y ≡ x → patch_details own s at x ≡ details_by s own ids places x
  asked-patched at h e = details-patched s own x ids places at (rw e at h)

  pub asked-own : None ≡ patch_of ids places y → y ≡ x → with_start own x ≡ details_by s own ids places x
  asked-own h e = details-own s own x ids places (rw e at h)
