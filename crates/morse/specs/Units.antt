-- The units of a text: 1 for key down, 0 for up. Dot 1, dash 3, gap inside a sign 1, between signs 3, between words 7.
-- Assumes nothing.
use Rattle.std.specs.Prelude.{ℕ, ◌+◌, ◌-◌, ◌*◌, ◌≡◌, List, [], ◌∷◌, ◌++◌, length, replicate}
use Rattle.std.proofs.lemmas.List.Edits.{sets}
use Rattle.basics.specs.Choice.{when◌then◌else◌}
use Rattle.morse.specs.Signs.{Mark, dot, dash, sign_of}
use Rattle.morse.specs.Texts.{is_space}

-- n units of key up
abbrev pub up : ℕ → List ℕ
up n = replicate n 0

-- n units of key down
abbrev pub down : ℕ → List ℕ
down n = replicate n 1

-- how long a mark is down
abbrev pub span : Mark → ℕ
span dot = 1
span dash = 3

-- the gap between two marks of a sign
abbrev pub inside_sign : ℕ
inside_sign = 1

-- the gap between two signs
abbrev pub between_signs : ℕ
between_signs = 3

-- the gap between two words
abbrev pub between_words : ℕ
between_words = 7

-- the units of one sign, its first mark after a gap
abbrev pub sign_units : (gap : ℕ) → List Mark → List ℕ
sign_units gap [] = []
sign_units gap (m ∷ ms) = up gap ++ (down (span m) ++ sign_units inside_sign ms)

-- the gap before the next sign, after a byte
abbrev pub gap_after : ℕ → ℕ
gap_after c = when is_space c then between_words else between_signs

-- the units of a text, its first sign after a gap; a space has no sign
abbrev pub units_after : (gap : ℕ) → List ℕ → List ℕ
units_after gap [] = []
units_after gap (c ∷ t) = sign_units gap (sign_of c) ++ units_after (gap_after c) t

-- the units of a text: no gap before the first sign, and nothing after the last
unfoldable pub units_of : List ℕ → List ℕ
units_of t = units_after 0 t

-- the most units that a character takes: the 19 of the longest signs, those of 0 and the comma, and the gap of 3 after
-- them; a space has no sign, and makes the gap 7
abbrev pub per_character : ℕ
per_character = 22

-- the most units that n characters take: nothing follows the last; of no character 0
abbrev pub units_for : ℕ → ℕ
units_for n = per_character * n - between_signs

-- bytes stored in a room from a place on, as far as it goes: the place after them, and the room's later content
abbrev pub Stored : (at : ℕ) (bytes room : List ℕ) (after : ℕ) (later : List ℕ) → Type 0
Stored at bytes room after later = (after ≡ at + length bytes) × (later ≡ sets room at bytes)
