-- What the calls of `expand_in` say of an accepted event: hd is its head, r what `call_fault` answered. Signed numbers are passed by their bits.
use Prim.Native.Nat.{ℕ}
use mathlib.Core.Bool.{Bool, true, false}
use mathlib.Core.List.{List, []}
use mathlib.Core.Path.{◌≡◌, sym, ap, ◌∙◌}
use lib.IntN.{ℤ}
use mir.Syntax.{w64}
use mir.Val.{SFits, to_z, of_z}
use mir.Facts.{to_z-of_z}
use Rattle.signed.proofs.Parts.{passed}
use Rattle.property.specs.Inner.From.{name_in}
use Rattle.event.specs.Event.{event_of}
use Rattle.event_text.specs.Inner.Front.{front_of, inner}
use Rattle.event_text.specs.Inner.Held.{from_head}
use Rattle.event_text.specs.Inner.Taken.{Taken}
use Rattle.event_text.specs.declared.Head.{Head}
use Rattle.event_text.proofs.FromHead.{head-privacy, head-zone}
use Rattle.call_definitions.specs.Window.{since1600}
use Rattle.sheet.specs.Writing.{sheet_of}
use Rattle.call_definitions.specs.Bytes.{written_version}
use Rattle.call_definitions.specs.Answer.{is_secret, expanded}
use Rattle.call_definitions.specs.Call.{text_fault, expand_text}
use Rattle.call_definitions.specs.Results.{zones_of, Gives}
use Rattle.opening.specs.Inner.Refusal.{refusal_for}
use Rattle.opening.proofs.RefusalLaws.{call-valid}
use Rattle.loading.proofs.WindowLaws.{window-in}
use Rattle.writer.specs.Inner.Table.{fitted}
use Rattle.expansion.specs.Inner.Visible.{table_for, Visible}
use Rattle.expansion.proofs.CallLaws.{text-accepted, call-refused, call-secret, call-visible}

abbrev again : ℤ → ℤ
again z = to_z w64 (of_z w64 z)

module _ (s t : List ℕ) (hd : Head) (fine : (text_fault s ≡ 0) × Taken s t hd) (name : List ℕ) (b : ℤ) (ts ns : List ℤ) (from to : ℤ) (fb : SFits w64 b)
    (ff : SFits w64 from) (ft : SFits w64 to) (r : ℕ)
    (said : r ≡ refusal_for (zones_of name (again b) ts ns) (again from) (again to) hd.privacy (name_in s hd.zone))
  where
    is : from_head inner s hd ≡ front_of s
    is = fine.1.head

    answered : r ≡ refusal_for (zones_of name b ts ns) from to hd.privacy (name_in s hd.zone)
    answered = rw (to_z-of_z fb, to_z-of_z ff, to_z-of_z ft) at said

    refusal_is : r ≡ refusal_for (zones_of name b ts ns) from to (event_of s).privacy (event_of s).zone
    refusal_is = answered ∙ (λ i. refusal_for (zones_of name b ts ns) from to (sym (head-privacy s hd is) i) (sym (head-zone s hd is) i))

    secrecy : (q c : Bool) → q ≡ is_secret hd.privacy → q ≡ c → is_secret (event_of s).privacy ≡ c
    secrecy q c e p = ap is_secret (head-privacy s hd is) ∙ (sym e ∙ p)

    module _ (buffer : List ℕ) where
      goes_on : (n k : ℕ) (after : List ℕ) → Gives (expanded (zones_of name b ts ns) (event_of s) from to buffer) n k after
          → Gives (expand_text (zones_of name b ts ns) s from to buffer) n k after
      goes_on n k after g = text-accepted (zones_of name b ts ns) s from to buffer fine.0 n k after g

      pub refused-gives : (r ≡ 0 → ⊥) → Gives (expand_text (zones_of name b ts ns) s from to buffer) r 0 buffer
      refused-gives h = goes_on r 0 buffer (call-refused (zones_of name b ts ns) (event_of s) from to buffer r refusal_is h)

      module _ (z : r ≡ 0) (q : Bool) (e : q ≡ is_secret hd.privacy) (n k : ℕ) (after : List ℕ) where
        pub secret-gives : q ≡ true → Gives (fitted (sheet_of written_version []) buffer) n k after → Gives (expand_text (zones_of name b ts ns) s from to buffer) n k after
        secret-gives p g = goes_on n k after (call-secret (zones_of name b ts ns) (event_of s) from to buffer r refusal_is z (secrecy q true e p) n k after g)

        pub visible-gives : q ≡ false → (a : ℕ) → a ≡ since1600 (again from) → (d : ℕ) → d ≡ since1600 (again to)
            → ((other : List ℕ) → Gives (fitted (table_for (zones_of other (again b) ts ns) (event_of s) a d) buffer) n k after)
            → Gives (expand_text (zones_of name b ts ns) s from to buffer) n k after
        visible-gives p a ea d ed g =
            let here = g name in
            goes_on n k after (call-visible (zones_of name b ts ns) (event_of s) from to buffer r refusal_is z (secrecy q false e p) n k after
            (rw (to_z-of_z fb, passed since1600 ff ea, passed since1600 ft ed) at here))

    pub visible-needs : r ≡ 0 → (a : ℕ) → a ≡ since1600 (again from) → (d : ℕ) → d ≡ since1600 (again to) → Visible s t hd (again b) ts ns a d
    visible-needs z a ea d ed =
        let valid = call-valid (zones_of name b ts ns) from to hd.privacy (name_in s hd.zone) (sym answered ∙ z) in
        record {
          taken = fine.1;
          valid = rw (to_z-of_z fb) valid.0;
          span = rw (passed since1600 ff ea, passed since1600 ft ed) (window-in from to valid.1);
        }
