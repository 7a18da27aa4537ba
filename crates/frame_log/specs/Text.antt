-- Numbers as text, in ASCII, and text that is put at the end of a line.
-- Assumes nothing.
use Rattle.std.specs.Prelude.{◌≡◌, ℕ, zero, suc, ◌+◌, ◌/◌, ◌%◌, ◌≤◌, List, [], ◌∷◌, ◌++◌, length, nat_lt}
use Rattle.basics.specs.Bytes.{two_hex, space}
use Rattle.basics.specs.Choice.{when◌then◌else◌}

-- the decimal digits of the largest number of 64 bits
abbrev pub most_digits : ℕ
most_digits = 20

-- a number in decimal, without leading zeros, the most significant digit first: at most so many digits
unfoldable pub decimal_up_to : (most : ℕ) → ℕ → List ℕ
decimal_up_to zero n = []
decimal_up_to (suc more) n =
    when nat_lt n 10 then (48 + n) ∷ [] else decimal_up_to more (n / 10) ++ ((48 + n % 10) ∷ [])

-- a number of 64 bits in decimal
unfoldable pub decimal : ℕ → List ℕ
decimal n = decimal_up_to most_digits n

-- a byte as two upper-case hex digits
unfoldable pub hex : ℕ → List ℕ
hex byte = two_hex byte

-- a space before a text
unfoldable pub spaced : List ℕ → List ℕ
spaced text = space ∷ text

-- at most so many bytes for a space and a number in decimal
abbrev pub most_decimal : ℕ
most_decimal = 1 + most_digits

-- so many bytes for a space and a byte in hex
abbrev pub most_hex : ℕ
most_hex = 3

-- a text of at most so many bytes, put at the end of what there is
pub record Put (text : List ℕ) (most : ℕ) (old new : List ℕ) : Type 0 where
  pub near : length new ≤ length old + most
  pub stored : new ≡ old ++ text
