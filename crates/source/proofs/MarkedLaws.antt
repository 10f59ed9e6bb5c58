-- The first days of a room of hits are marked, and their ids are the window's.
use Prim.Native.Nat.{ℕ, ◌+◌, ◌/◌, ◌<◌, ◌≤◌}
use mathlib.Core.Bool.{Bool}
use mathlib.Core.List.{List, ◌++◌}
use mathlib.Core.Path.{◌≡◌, sym, ap, ◌∙◌, subst}
use native.Mathlib.Omega.{arith}
use lib.ListN.{length, take, drop}
use lib.Seq.{length-take-le, length_front, take_at}
use Rattle.rule.specs.Gives.{end_day}
use Rattle.track.specs.Inner.Runs.{run}
use Rattle.dates.specs.Inner.Tracked.{Run}
use Rattle.dates.specs.Inner.Loaded.{Loaded, is_in, is_on}
use Rattle.window.specs.Inner.Next.{is_there, Stretch}
use Rattle.window.specs.Inner.Chunks.{chunk_end}
use Rattle.window.specs.Inner.Handed.{Span, Handed, Collects}
use Rattle.window.proofs.ChunkLaws.{end_before, end_later, end-stretch}
use Rattle.window.proofs.RunLaws.{same-there}
use Rattle.window.proofs.HandLaws.{handed-same, handed-wider}
use Rattle.source.specs.Inner.Marks.{Marks}

pub taken : {A : Type 0} (l : List A) (n : ℕ) → n ≤ length l → n ≡ length (take n l)
taken l n h = sym (length-take-le n l h)

module _ (from to k : ℕ) (s : Span from to) (m : Marks from to k) where
  in-time : from / 86400 + k ≤ end_day
  in-time = omega (arith, s.high, m.within)

  -- the days that are marked lie in the profile
  pub marked-run : (hits : List Bool) → k ≤ length hits → Run (from / 86400) (length (take k hits))
  marked-run hits few =
      let size = length-take-le k hits few in
      let within = in-time in
      record { low = s.low; high = omega arith }

  -- `now` stands at the front of the room
  module _ (hits now : List Bool) (few : k ≤ length hits) (size : length now ≡ length (take k hits)) where
    long : length now ≡ k
    long = size ∙ length-take-le k hits few

    front : take k (now ++ drop k hits) ≡ now
    front = take_at now (drop k hits) k long

    pub front_fits : k ≤ length (now ++ drop k hits)
    front_fits = omega (arith, length_front hits now k size)

    pub front-size : k ≡ length (take k (now ++ drop k hits))
    front-size = taken (now ++ drop k hits) k front_fits

    module _ (more : from < to) (end : ℕ) (is-end : end ≡ chunk_end from to k) where
      stretch : Stretch (from / 86400) k from end
      stretch = end-stretch from to k m.some end is-end more in-time

      pub marked-collects : (ids gone out : ℕ) → ids ≡ gone → 32 ≤ out
          → Collects (from / 86400) (length (take k (now ++ drop k hits))) from end ids gone out
      marked-collects ids gone out even room =
          record { stretch = subst (λ (n : ℕ). Stretch (from / 86400) n from end) front-size stretch; overrides = even; room = omega arith }

      -- what was collected of the days before `end` is what the window has there
      pub marked-hands : (l : Loaded) → now ≡ run (is_on l) (from / 86400) (length (take k hits)) → (before after : List ℕ) (count next : ℕ)
          → Handed (is_there (take k (now ++ drop k hits)) (from / 86400) l.start l.ids l.gone) from end before after count next
          → Handed (is_in l) from to before after count next
      marked-hands l is before after count next h =
          let filled : take k (now ++ drop k hits) ≡ run (is_on l) (from / 86400) k =
          front ∙ (is ∙ ap (run (is_on l) (from / 86400)) (length-take-le k hits few)) in
          handed-wider (is_in l) from end to before after count next (end_before from to k m.some end is-end) (end_later from to k m.some end is-end)
          (handed-same _ (is_in l) from end before after count next (same-there l (take k (now ++ drop k hits)) (from / 86400) k filled from end stretch) h)
