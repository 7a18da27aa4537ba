-- The page's numbers of what keying and reading answer, under the header's names.
-- Assumes nothing.
use Rattle.std.specs.Prelude.{ℕ}

-- done by the rules
abbrev pub done : ℕ
done = 0

-- a text over 64 bytes
abbrev pub text_too_long : ℕ
text_too_long = 11

-- a byte that is neither a space nor of A to Z, 0 to 9 and . , ? /
abbrev pub not_keyable : ℕ
not_keyable = 12

-- a space first, last or doubled
abbrev pub bad_space : ℕ
bad_space = 13

-- a room shorter than the result
abbrev pub no_room : ℕ
no_room = 14

-- units that are not exactly the keying of a text
abbrev pub not_a_keying : ℕ
not_a_keying = 15
