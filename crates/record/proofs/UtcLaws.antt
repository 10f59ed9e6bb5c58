-- An occurrence's times in UTC as the code finds them: its numbers fit, and they are those of the definitions. A signed number is passed by its
-- bits, so each fact of a call is about the number read back from them.
use Prim.Native.Nat.{ℕ, ◌+◌, ◌*◌, ◌<◌, ◌≤◌, ◌^◌}
use mathlib.Core.Bool.{Bool, true, false}
use mathlib.Core.List.{List}
use mathlib.Core.Option.{Option, none, some}
use mathlib.Core.Path.{◌≡◌, refl, sym, ap, ◌∙◌}
use native.Mathlib.Omega.{arith}
use lib.IntN.{ℤ, pos, nat_abs, ◌+ℤ◌, ◌-ℤ◌, +ℤ_idr}
use lib.Signed.{mag}
use mir.Syntax.{w64}
use mir.Val.{SFits, to_z, of_z}
use mir.Facts.{to_z-of_z}
use Rattle.signed.proofs.Parts.{back}
use Rattle.zone.specs.Table.{valid_table}
use Rattle.zone.specs.Lookup.{utc_at}
use Rattle.zone.proofs.RangeLaws.{difference-abs}
use Rattle.zone.proofs.LookupLaws.{offset-abs}
use Rattle.event.specs.Types.{Details}
use Rattle.call_definitions.specs.Window.{since1970}
use Rattle.call_definitions.specs.Utc.{ZoneTable, is_floating, utc_of, utc_start, days_later, utc_end}
use Rattle.call_definitions.proofs.UtcLaws.{since-near}
use Rattle.record.specs.declared.Times.{Times}
use Rattle.record.specs.Inner.Utc.{times_of, offset_by, local_end, start_offset, end_offset, start_by, end_by, Started}

abbrev pub again : ℤ → ℤ
again z = to_z w64 (of_z w64 z)

-- ---- the same times by the definitions of `call_definitions`

utc-by : (table : ZoneTable) (zone : Option (List ℕ)) (local : ℤ)
    → utc_of table zone local ≡ local -ℤ offset_by (is_floating zone) table.initial table.instants table.offsets local
unfolding utc_of utc_at offset_by
utc-by table none local = sym (+ℤ_idr local)
utc-by table (some name) local = refl

module _ (table : ZoneTable) (zone : Option (List ℕ)) (d : Details) where
  pub start-by : utc_start table zone d ≡ start_by table.initial table.instants table.offsets (times_of (is_floating zone) d)
  unfolding utc_start start_by start_offset times_of
  start-by = utc-by table zone (since1970 d.start)

  pub end_by_lem : utc_end table zone d ≡ end_by table.initial table.instants table.offsets (times_of (is_floating zone) d)
  unfolding utc_end end_by end_offset times_of
  end_by_lem = ap (λ (t : ℤ). t +ℤ pos d.length.seconds) (utc-by table zone (since1970 (days_later d.start d.length.days)))

-- ---- how large local times and offsets can be

pub local-abs : (x : ℕ) → x < 2 ^ 61 → nat_abs (since1970 x) ≤ 2 ^ 61
local-abs x h = since-near x (2 ^ 61) (omega arith) (omega arith)

pub by-abs : (fl : Bool) (b : ℤ) (ts ns : List ℤ) → valid_table b ts ns ≡ true → (x : ℤ) → nat_abs (offset_by fl b ts ns x) ≤ 86399
unfolding offset_by
by-abs true b ts ns v x = omega arith
by-abs false b ts ns v x = offset-abs b ts ns v x

-- ---- the offset at the end

pub no-days : (b : ℤ) (ts ns : List ℤ) (t : Times) → t.days ≡ 0 → start_offset b ts ns t ≡ end_offset b ts ns t
unfolding start_offset end_offset days_later
no-days b ts ns t e =
    let same : t.start ≡ t.start + 86400 * t.days = omega arith in
    ap (λ (x : ℕ). offset_by t.floating b ts ns (since1970 x)) same

-- ---- the calls of `end_of`, one after the other: B the offset at the start, L the local end, O the offset there, U the local end in UTC

module _ (b : ℤ) (ts ns : List ℤ) (f : SFits w64 b) (t : Times) (B : ℤ) (known : Started t B b ts ns)
    (n : ℕ) (sum : n ≡ t.start + 86400 * t.days) (L : ℤ) (l : mag L < 2 ^ 63) (le : L ≡ since1970 n) where
  end-local : again L ≡ local_end t
  unfolding days_later
  end-local = back L l ∙ (le ∙ ap since1970 sum)

  module _ (O : ℤ) (o : mag O < 2 ^ 63) (oe : O ≡ end_offset (again b) ts ns t) where
    end-offset : again O ≡ end_offset b ts ns t
    end-offset = back O o ∙ (rw (to_z-of_z f) at oe)

    pub end-converts : (nat_abs (again L) ≤ 2 ^ 61) × (nat_abs (again O) ≤ 86399)
    unfolding end_offset days_later
    end-converts =
        (rw end-local (local-abs _ (omega (arith, known.brief.start_small, known.brief.length_small))), rw end-offset (by-abs t.floating b ts ns known.valid (local_end t)))

    pub end_later : (U : ℤ) → mag U < 2 ^ 63 → U ≡ again L -ℤ again O → (nat_abs (again U) ≤ 2 ^ 62) × (t.seconds ≤ 2 ^ 40)
    end_later U u ue =
        (rw (back U u, ue) (omega (arith, difference-abs (again L) (again O) 86399 end-converts.1, end-converts.0)), omega (arith, known.brief.length_small))
