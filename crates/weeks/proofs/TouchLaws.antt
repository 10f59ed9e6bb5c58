-- The weeks that a span touches are those from its first on and before the one after its last.
use Rattle.std.specs.Prelude.{if◌then◌else◌}
use Prim.Native.Nat.{ℕ, suc, ◌+◌, ◌*◌, ◌-◌, ◌/◌, ◌<◌, ◌≤◌, ◌^◌}
use mathlib.Core.Bool.{Bool, true, false, ◌&&◌}
use mathlib.Core.Path.{◌≡◌, refl, sym, ap₂, ◌∙◌}
use native.Mathlib.Omega.{arith}
use lib.Dec.{ltb, leb}
use lib.IntN.{ℤ}
use mir.Syntax.{w64}
use mir.Val.{SFits}
use borrow.Author.Tests.{ltb-true, ltb-false, leb-true, leb-false, lt-ltb, le-ltb, le-leb, lt-leb}
use Rattle.signed.proofs.Parts.{fit-neg}
use Rattle.rule.proofs.Bools.{by}
use Rattle.sheet.specs.Records.{Row}
use Rattle.weeks.specs.Weeks.{week_start, in_week, touches}
use Rattle.weeks.specs.Inner.Marks.{up, Span, span_of}
use Rattle.weeks.proofs.Instants.{lt_up, le_up, start-low, up_start}

-- the span takes in week i
unfoldable pub covers : ℕ → Span → Bool
covers i s = leb s.first i && ltb i s.after

and_comm : (t u : Bool) → (t && u) ≡ (u && t)
and_comm true true = refl
and_comm true false = refl
and_comm false true = refl
and_comm false false = refl

not-before : (a b c d : ℕ) → (a ≤ b → c < d) → (b < a → d ≤ c) → leb a b ≡ ltb c d
not-before a b c d f g = by (leb a b) (λ e. e ∙ sym (lt-ltb c d (f (leb-true a b e)))) (λ e. e ∙ sym (le-ltb c d (g (leb-false a b e))))

not_after : (a b c d : ℕ) → (a < b → c ≤ d) → (b ≤ a → d < c) → ltb a b ≡ leb c d
not_after a b c d f g = by (ltb a b) (λ e. e ∙ sym (le-leb c d (f (ltb-true a b e)))) (λ e. e ∙ sym (lt-leb c d (g (ltb-false a b e))))

sooner : (a b c d : ℕ) → (a < b → c < d) → (b ≤ a → d ≤ c) → ltb a b ≡ ltb c d
sooner a b c d f g = by (ltb a b) (λ e. e ∙ sym (lt-ltb c d (f (ltb-true a b e)))) (λ e. e ∙ sym (le-ltb c d (g (ltb-false a b e))))

-- ---- over natural numbers: b is the range's start, x and y are the span's start and end

module _ (b i x y : ℕ) where
  span-law : x < y → (ltb x (b + 604800 * suc i) && ltb (b + 604800 * i) y) ≡ (leb ((x - b) / 604800) i && ltb i ((y - b + 604799) / 604800))
  span-law h =
      ap₂ ◌&&◌
      (not_after x (b + 604800 * suc i) ((x - b) / 604800) i (λ e. omega arith) (λ e. omega arith))
      (sooner (b + 604800 * i) y i ((y - b + 604799) / 604800) (λ e. omega arith) (λ e. omega arith))

  instant-law : (leb (b + 604800 * i) x && ltb x (b + 604800 * suc i)) ≡ (leb ((x - b) / 604800) i && ltb i (if ltb x b then 0 else (x - b) / 604800 + 1))
  instant-law = by (ltb x b) before inside
    where
      before : ltb x b ≡ true → (leb (b + 604800 * i) x && ltb x (b + 604800 * suc i)) ≡ (leb ((x - b) / 604800) i && ltb i (if ltb x b then 0 else (x - b) / 604800 + 1))
      before e =
          let h = ltb-true x b e in
          rw (e, lt-leb (b + 604800 * i) x (omega arith), le-leb ((x - b) / 604800) i (omega arith), le-ltb i 0 (omega arith))

      inside : ltb x b ≡ false → (leb (b + 604800 * i) x && ltb x (b + 604800 * suc i)) ≡ (leb ((x - b) / 604800) i && ltb i (if ltb x b then 0 else (x - b) / 604800 + 1))
      inside e =
          let h = ltb-false x b e in
          rw (
            e,
            not-before (b + 604800 * i) x i ((x - b) / 604800 + 1) (λ g. omega arith) (λ g. omega arith),
            not_after x (b + 604800 * suc i) ((x - b) / 604800) i (λ g. omega arith) (λ g. omega arith),
          ) (and_comm (ltb i ((x - b) / 604800 + 1)) (leb ((x - b) / 604800) i))

-- ---- the law

module _ (from : ℤ) (i : ℕ) (r : Row) (f : SFits w64 from) (g : SFits w64 r.start) (h : SFits w64 r.end) where
  pub touches-span : touches from i r ≡ covers i (span_of (up from) r)
  unfolding touches in_week covers span_of
  touches-span =
      let a = fit-neg from f in
      let b = fit-neg r.start g in
      let c = fit-neg r.end h in
      rw (
        lt_up (2 ^ 63) r.start r.end b c,
        lt_up (2 ^ 63) r.start (week_start from (suc i)) b (start-low (2 ^ 63) from (suc i) a),
        lt_up (2 ^ 63) (week_start from i) r.end (start-low (2 ^ 63) from i a) c,
        le_up (2 ^ 63) (week_start from i) r.start (start-low (2 ^ 63) from i a) b,
        up_start (2 ^ 63) from i a,
        up_start (2 ^ 63) from (suc i) a,
      )
      (by (ltb (up r.start) (up r.end))
      (λ e. rw e (span-law (up from) i (up r.start) (up r.end) (ltb-true _ _ e)))
      (λ e. rw e (instant-law (up from) i (up r.start) (up r.end))))
