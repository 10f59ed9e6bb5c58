-- What is true of an occurrence's times in UTC: what the days of its length do, how far the end lies from the start, and how large both can be.
use Prim.Native.Nat.{ℕ, ◌+◌, ◌*◌, ◌/◌, ◌%◌, ◌≤◌}
use mathlib.Core.Bool.{true}
use mathlib.Core.List.{List}
use mathlib.Core.Option.{Option, none, some}
use mathlib.Core.Path.{◌≡◌}
use native.Mathlib.Omega.{arith}
use lib.IntN.{ℤ, pos, nat_abs, sub_ℕ, ◌+ℤ◌, ◌-ℤ◌}
use Rattle.signed.proofs.Parts.{parts-eq, parts-abs, sum-parts, diff-parts, subℕ-parts, subℕ-pos, subℕ-neg}
use Rattle.zone.specs.Table.{valid_table}
use Rattle.zone.specs.Lookup.{offset_at, utc_at}
use Rattle.zone.proofs.RangeLaws.{sum-abs}
use Rattle.zone.proofs.LookupLaws.{utc-abs}
use Rattle.event.specs.Types.{Details}
use Rattle.call_definitions.specs.Window.{epoch, since1970}
use Rattle.call_definitions.specs.Utc.{ZoneTable, utc_of, utc_start, days_later, utc_end}

-- "Add any week or day components of the duration to the date": so many dates later, at the same time of day.
pub same-time-of-day : (local days : ℕ) → (days_later local days / 86400 ≡ local / 86400 + days) × (days_later local days % 86400 ≡ local % 86400)
unfolding days_later
same-time-of-day local days = (omega arith, omega arith)

-- ---- how far the end lies from the start

-- the length with days of 86,400 seconds
abbrev pub fixed : Details → ℕ
fixed d = 86400 * d.length.days + d.length.seconds

-- a later local time, less another offset
apart : (x y n s : ℕ) (o p : ℤ) → y + s ≡ x + n → (since1970 y -ℤ p) +ℤ pos s ≡ ((since1970 x -ℤ o) +ℤ pos n) +ℤ (o -ℤ p)
unfolding since1970
apart x y n s o p h =
    let a = sub_ℕ x epoch in
    let b = sub_ℕ y epoch in
    parts-eq ((b -ℤ p) +ℤ pos s) (((a -ℤ o) +ℤ pos n) +ℤ (o -ℤ p))
    (omega (
      arith,
      h,
      subℕ-parts x epoch,
      subℕ-parts y epoch,
      diff-parts b p,
      sum-parts (b -ℤ p) (pos s),
      diff-parts a o,
      sum-parts (a -ℤ o) (pos n),
      diff-parts o p,
      sum-parts ((a -ℤ o) +ℤ pos n) (o -ℤ p),
    ))

-- In a zone the end lies after the start by the length with days of 86,400 seconds, and by as much as the clock was put back on the way.
pub end-in-zone : (table : ZoneTable) (zone : List ℕ) (d : Details)
    → utc_end table (some zone) d
    ≡ (utc_start table (some zone) d +ℤ pos (fixed d))
    +ℤ (offset_at table.initial table.instants table.offsets (since1970 d.start)
    -ℤ offset_at table.initial table.instants table.offsets (since1970 (days_later d.start d.length.days)))
unfolding utc_end utc_start utc_of utc_at days_later
end-in-zone table zone d =
    apart d.start (d.start + 86400 * d.length.days) (fixed d) d.length.seconds
    (offset_at table.initial table.instants table.offsets (since1970 d.start))
    (offset_at table.initial table.instants table.offsets (since1970 (d.start + 86400 * d.length.days))) (omega arith)

-- ---- how large both can be

pub since-near : (x k : ℕ) → x ≤ k → epoch ≤ k → nat_abs (since1970 x) ≤ k
unfolding since1970
since-near x k h e = parts-abs (sub_ℕ x epoch) k (omega (arith, subℕ-pos x epoch)) (omega (arith, subℕ-neg x epoch))

module _ (table : ZoneTable) (valid : valid_table table.initial table.instants table.offsets ≡ true) where
  utc-near : (zone : Option (List ℕ)) (t : ℤ) → nat_abs (utc_of table zone t) ≤ nat_abs t + 86399
  unfolding utc_of
  utc-near none t = omega arith
  utc-near (some name) t = utc-abs table.initial table.instants table.offsets valid t

  module _ (zone : Option (List ℕ)) (d : Details) (k : ℕ) (h : d.start ≤ k) (e : epoch ≤ k) where
    pub start-near : nat_abs (utc_start table zone d) ≤ k + 86399
    unfolding utc_start
    start-near = omega (arith, utc-near zone (since1970 d.start), since-near d.start k h e)

    -- The days may lead past 9998: the look-up goes on there.
    pub end-near : nat_abs (utc_end table zone d) ≤ k + 86399 + fixed d
    unfolding utc_end days_later
    end-near =
        let local = since1970 (d.start + 86400 * d.length.days) in
        omega (
          arith,
          utc-near zone local,
          since-near (d.start + 86400 * d.length.days) (k + 86400 * d.length.days) (omega arith) (omega arith),
          sum-abs (utc_of table zone local) (pos d.length.seconds) d.length.seconds (omega arith),
        )
