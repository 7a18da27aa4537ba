-- Numbers as bytes, the low byte first, and tests as 0 or 1.
-- Assumes nothing.
use Rattle.std.specs.Prelude.{ℕ, ◌+◌, ◌*◌, ◌/◌, ◌%◌, Bool, true, false, List, [], ◌∷◌}
use Rattle.frames.specs.Reading.{byte_at}

-- a test: 0 false, 1 true
abbrev pub flag : Bool → ℕ
flag true = 1
flag false = 0

-- a number as two bytes
abbrev pub pair_bytes : ℕ → List ℕ
pair_bytes n = n % 256 ∷ n / 256 ∷ []

-- a number as three bytes
abbrev pub triple_bytes : ℕ → List ℕ
triple_bytes n = n % 256 ∷ n / 256 % 256 ∷ n / 65536 ∷ []

-- a number as four bytes
abbrev pub quad_bytes : ℕ → List ℕ
quad_bytes n = n % 256 ∷ n / 256 % 256 ∷ n / 65536 % 256 ∷ n / 16777216 ∷ []

-- the number whose two bytes stand from i on
abbrev pub pair_at : ℕ → List ℕ → ℕ
pair_at i bytes = byte_at i bytes + byte_at (i + 1) bytes * 256

-- the number whose three bytes stand from i on
abbrev pub triple_at : ℕ → List ℕ → ℕ
triple_at i bytes = pair_at i bytes + byte_at (i + 2) bytes * 65536

-- the number whose four bytes stand from i on
abbrev pub quad_at : ℕ → List ℕ → ℕ
quad_at i bytes = pair_at i bytes + pair_at (i + 2) bytes * 65536
