-- Records with nothing wrong in them, in one pass.
use Rattle.std.specs.Prelude.{ℕ, zero, suc, ◌+◌, ◌*◌, Bool, true, ◌&&◌, List, leb}
use Rattle.little_endian.specs.Bytes.{number_at}
use Rattle.sheet.specs.Reading.{rises_at}

-- The marks and the zeros of record k, as one number of four bytes, are at most the marks that are allowed: so the zeros are 0.
abbrev pub sound_at : ℕ → List ℕ → ℕ → Bool
sound_at most s k = leb (number_at 4 (28 * k + 24) s) most

-- Records k, k + 1, .., n of them: each is sound, and each id but the last is below the next.
unfoldable pub good_from : ℕ → List ℕ → ℕ → ℕ → Bool
good_from most s k zero = true
good_from most s k (suc zero) = sound_at most s k
good_from most s k (suc (suc n)) = rises_at s k && (sound_at most s k && good_from most s (suc k) (suc n))
