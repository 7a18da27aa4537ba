-- Laws of numbers as bytes: read back as they were stored, and stored as they were read.
-- Assumes nothing.
use Prim.Native.Nat.{ℕ, ◌+◌, ◌*◌, ◌/◌, ◌%◌, ◌<◌, ◌≤◌}
use native.Mathlib.Omega.{arith}
use mathlib.Core.Path.{◌≡◌, refl, sym}
use mathlib.Core.Bool.{Bool, true, false}
use mathlib.Core.List.{List}
use lib.Dec.{eqb, leb}
use lib.ListN.{get_or}
use borrow.Author.Tests.{eqb-true, eqb-false}
use Rattle.frames.specs.Reading.{byte_at}
use Rattle.flight.specs.Fields.{flag, pair_at, triple_at, quad_at}

-- every element is a byte, as in a slice of bytes; a list of a contract may hold any numbers
abbrev pub AllBytes : List ℕ → Type 0
AllBytes bytes = (i : ℕ) → get_or bytes i 0 < 256

pub flag_back : (test : Bool) → eqb (flag test) 1 ≡ test
flag_back true = refl
flag_back false = refl

pub pair_back : (n : ℕ) → n % 256 + n / 256 * 256 ≡ n
pair_back n = omega arith

pub triple_back : (n : ℕ) → n % 256 + n / 256 % 256 * 256 + n / 65536 * 65536 ≡ n
triple_back n = omega arith

pub quad_back : (n : ℕ) → n % 256 + n / 256 % 256 * 256 + (n / 65536 % 256 + n / 16777216 * 256) * 65536 ≡ n
quad_back n = omega arith

pub flag_low : (test : Bool) → leb (flag test) 1 ≡ true
flag_low true = refl
flag_low false = refl

pub flag_stored : (n : ℕ) → n ≤ 1 → flag (eqb n 1) ≡ n
flag_stored n h = by_test (eqb n 1) refl
  where
    by_test : (t : Bool) → eqb n 1 ≡ t → flag t ≡ n
    by_test true e = sym (eqb-true n 1 e)
    by_test false e = omega (arith, eqb-false n 1 e)

module _ (bytes : List ℕ) (small : AllBytes bytes) (i : ℕ) where
  pub pair_small : pair_at i bytes < 65536
  pair_small = omega (arith, small i, small (i + 1))

  pub pair_low : pair_at i bytes % 256 ≡ byte_at i bytes
  pair_low = omega (arith, small i)

  pub pair_high : pair_at i bytes / 256 ≡ byte_at (i + 1) bytes
  pair_high = omega (arith, small i)

  pub triple_low : triple_at i bytes % 256 ≡ byte_at i bytes
  triple_low = omega (arith, small i)

  pub triple_middle : triple_at i bytes / 256 % 256 ≡ byte_at (i + 1) bytes
  triple_middle =
      let rest : triple_at i bytes / 256 ≡ byte_at (i + 1) bytes + byte_at (i + 2) bytes * 256 = omega (arith, small i) in
      rw rest (omega (arith, small (i + 1)))

  pub triple_high : triple_at i bytes / 65536 ≡ byte_at (i + 2) bytes
  triple_high = omega (arith, small i, small (i + 1))

-- the four bytes of a number of four
module _ (bytes : List ℕ) (small : AllBytes bytes) (i : ℕ) where
  pub quad_first : quad_at i bytes % 256 ≡ byte_at i bytes
  quad_first = omega (arith, small i)

  pub quad_second : quad_at i bytes / 256 % 256 ≡ byte_at (i + 1) bytes
  quad_second =
      let rest : quad_at i bytes / 256 ≡ byte_at (i + 1) bytes + pair_at (i + 2) bytes * 256 = omega (arith, small i) in
      rw rest (omega (arith, small (i + 1)))

  high : quad_at i bytes / 65536 ≡ pair_at (i + 2) bytes
  high = omega (arith, pair_small bytes small i)

  pub quad_third : quad_at i bytes / 65536 % 256 ≡ byte_at (i + 2) bytes
  quad_third = rw high (pair_low bytes small (i + 2))

  pub quad_fourth : quad_at i bytes / 16777216 ≡ byte_at (i + 2 + 1) bytes
  quad_fourth = omega (arith, pair_small bytes small i, small (i + 2))
