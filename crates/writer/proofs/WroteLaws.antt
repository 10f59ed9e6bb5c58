-- The loop that writes a window chunk by chunk: what is left to write here makes the whole.
use Prim.Native.Nat.{ℕ, ◌+◌, ◌-◌, ◌*◌, ◌<◌, ◌≤◌, ◌^◌}
use mathlib.Core.Bool.{Bool}
use mathlib.Core.List.{List, [], ◌++◌, map, map-append}
use mathlib.Core.Path.{◌≡◌, refl, sym, ap, ◌∙◌}
use native.Mathlib.Omega.{arith}
use lib.IntN.{ℤ}
use lib.ListN.{length, take, get_or, length-append, length-map}
use lib.Seq.{sets, length-sets}
use Rattle.sheet.specs.Records.{Row}
use Rattle.sheet.specs.Writing.{rows_bytes}
use Rattle.sheet.proofs.WrittenLaws.{rows-length, rows_append}
use Rattle.record.proofs.RowLaws.{sets-append}
use Rattle.window.specs.Inner.Lists.{list_in}
use Rattle.window.specs.Inner.Handed.{Handed}
use Rattle.window.proofs.ListLaws.{list-parts, list-nothing}
use Rattle.writer.specs.declared.Form.{Form}
use Rattle.writer.specs.Inner.Writes.{Writes, WritesAt, WroteChunk}

-- From the second `second` on, with the buffer `buf` and the place `place`.
pub record WroteTo (row : ℕ → Row) (p : ℕ → Bool) (from to at : ℕ) (before : List ℕ) (second place : ℕ) (buf : List ℕ) : Type 0 where
  pub low : from ≤ second
  pub order : second ≤ to
  pub same : length buf ≡ length before
  pub room : place + 28 * length (list_in p second (to - second)) ≡ at + 28 * length (list_in p from (to - from))
  pub rest : sets buf place (rows_bytes (map row (list_in p second (to - second)))) ≡ sets before at (rows_bytes (map row (list_in p from (to - from))))

module _ (row : ℕ → Row) (p : ℕ → Bool) (from to at : ℕ) (before : List ℕ) where
  pub wrote-start : from ≤ to → WroteTo row p from to at before from at before
  wrote-start order = record { low = omega arith; order = order; same = refl; room = refl; rest = refl }

  module _ (second place : ℕ) (buf : List ℕ) (w : WroteTo row p from to at before second place buf) where
    pub wrote-end : to ≤ second → WroteChunk row (list_in p from (to - from)) at before buf place
    unfolding rows_bytes
    wrote-end over =
        let none : list_in p second (to - second) ≡ [] = list-nothing p second (to - second) (λ j low high. absurd (omega arith)) in
        let nothing : rows_bytes (map row (list_in p second (to - second))) ≡ [] = ap (λ (l : List ℕ). rows_bytes (map row l)) none in
        record { bytes = sym (ap (sets buf place) nothing) ∙ w.rest; place = omega (arith, ap length none, w.room) }

    module _ (room out : List ℕ) (count next : ℕ) (h : Handed p second to room out count next) where
      lists : list_in p second (to - second) ≡ take count out ++ list_in p next (to - next)
      lists =
          list-parts p second next to h.low h.high ∙ ap (λ (l : List ℕ). l ++ list_in p next (to - next)) (sym h.ids)

      sum : length (list_in p second (to - second)) ≡ length (take count out) + length (list_in p next (to - next))
      sum = ap length lists ∙ length-append (take count out) (list_in p next (to - next))

      pub wrote-room : at + 28 * length (list_in p from (to - from)) ≤ length before → place + 28 * length (take count out) ≤ length buf
      wrote-room enough = omega (arith, sum, w.room, w.same)

      rows : rows_bytes (map row (list_in p second (to - second))) ≡ rows_bytes (map row (take count out)) ++ rows_bytes (map row (list_in p next (to - next)))
      rows =
          ap (λ (l : List ℕ). rows_bytes (map row l)) lists
          ∙ (ap rows_bytes (map-append row (take count out) (list_in p next (to - next))) ∙ rows_append (map row (take count out)) (map row (list_in p next (to - next))))

      pub wrote-next : (after : List ℕ) (end : ℕ) → WroteChunk row (take count out) place buf after end → WroteTo row p from to at before next end after
      wrote-next after end c =
          let here = rows_bytes (map row (take count out)) in
          let later = rows_bytes (map row (list_in p next (to - next))) in
          let long : length here ≡ 28 * length (take count out) = rows-length (map row (take count out)) ∙ ap (λ (n : ℕ). 28 * n) (length-map (take count out) row) in
          record {
            low = omega (arith, w.low, h.low);
            order = h.high;
            same = ap length c.bytes ∙ (length-sets buf place here ∙ w.same);
            room = omega (arith, sum, w.room, c.place);
            rest =
                ap (λ (l : List ℕ). sets l end later) c.bytes
                ∙ (ap (λ (k : ℕ). sets (sets buf place here) k later) (c.place ∙ sym (ap (λ (k : ℕ). place + k) long))
                ∙ (sym (sets-append here later buf place)
                ∙ (ap (sets buf place) (sym rows) ∙ w.rest)));
          }

      -- what the writer asks for, of the chunk that was handed over
      pub wrote-asks : (s t : List ℕ) (f : Form) (ids places : List ℕ) (b : ℤ) (ts ns : List ℤ) → Writes s t f ids places b ts ns
          → ((k : ℕ) → k < length (take count out) → get_or (take count out) k 0 < to) → to ≤ 2 ^ 60
          → at + 28 * length (list_in p from (to - from)) ≤ length before
          → WritesAt (length buf) place (take count out) s t f ids places b ts ns
      wrote-asks s t f ids places b ts ns writes early most enough =
          record { writes = writes; early = λ k h. omega (arith, early k h); room = wrote-room enough }
