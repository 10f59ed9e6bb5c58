-- `track::ahead::out_after` meets its contract.
use Rattle.track.proofs.SkipLaws.{without-none}
use native.Mathlib.Omega.{arith}
use Rattle.track.proofs.ahead.out_after.Goals as goal

pub returns-then-x-first : goal.returns-then-x-first
returns-then-x-first c = record { out = without-none _ _; after = λ some-days. absurd (omega arith) }
