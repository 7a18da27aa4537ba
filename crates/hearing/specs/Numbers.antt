-- The numbers by which the decoder knows a sign: no promise speaks of them.
-- Assumes nothing.
use Rattle.std.specs.Prelude.{ℕ, zero, suc, ◌+◌, ◌-◌, ◌*◌, ◌%◌, Bool, true, false, List, [], ◌∷◌, eqb, leb, ltb, get_or}
use Rattle.std.specs.Prelude.{Option, Some, None}
use Rattle.basics.specs.Choice.{when◌then◌else◌}
use Rattle.basics.specs.Tables.{first_of}
use Rattle.morse.specs.Signs.{Mark, dot, dash, first_figure, Row, alphabet}
use Rattle.morse.specs.Units.{span}

-- the number of a sign after one more mark
abbrev pub grown : ℕ → Mark → ℕ
grown number dot = 2 * number
grown number dash = 2 * number + 1

-- the number of a sign, from 1 on: doubled for each mark, and one more for a dash
abbrev pub climb : ℕ → List Mark → ℕ
climb number [] = number
climb number (m ∷ ms) = climb (grown number m) ms

-- the numbers of signs of up to four marks are below it, and so those of the letters
abbrev pub four_marks : ℕ
four_marks = 32

-- of up to five: the figures, and all signs that may have one more mark
abbrev pub five_marks : ℕ
five_marks = 64

-- of up to six, and so those of all signs
abbrev pub six_marks : ℕ
six_marks = 128

-- the byte whose sign has this number among rows, if any
abbrev pub byte_among : (number : ℕ) → List Row → Option ℕ
byte_among number = first_of (λ r. eqb (climb 1 r.sign) number) (λ r. Some r.byte) None

-- the byte whose sign has this number, if any
unfoldable pub byte_of : ℕ → Option ℕ
byte_of number = when ltb number six_marks then byte_among number alphabet else None

-- whether they are one byte, or none
abbrev pub same_byte : Option ℕ → Option ℕ → Bool
same_byte None None = true
same_byte (Some a) (Some b) = eqb a b
same_byte None (Some b) = false
same_byte (Some a) None = false

-- `_`, which is not of the alphabet: the entry of the code's table of letters for a number that no letter has
abbrev pub no_letter : ℕ
no_letter = 95

-- the letter of an entry, if any
abbrev pub letter_of : ℕ → Option ℕ
letter_of entry = when eqb entry no_letter then None else Some entry

-- the rule of that table at entry k
abbrev pub is_byte : List ℕ → ℕ → Bool
is_byte table k = same_byte (letter_of (get_or table k 0)) (byte_of k)

-- how the code works a figure out: the byte d past a first one, if a part of 32 is 32 once it is doubled d times, fewer
-- than so many; else none
abbrev pub past_by : (turns first part : ℕ) → Option ℕ
past_by zero first part = None
past_by (suc turns) first part = when eqb part four_marks then Some first else past_by turns (first + 1) (2 * part)

-- the figure whose sign has a number of five marks or more, by its last mark, if any
abbrev pub figure_by : ℕ → Option ℕ
figure_by number =
    when leb five_marks number then None
    else when eqb (number % 2) 1 then past_by four_marks first_figure (number - (four_marks - 1))
    else past_by four_marks (first_figure + 5) (five_marks - number)

-- the number of a sign after one more mark, by the units for which the key was down; none where they are no mark, or no
-- sign has so many
unfoldable pub after_mark : (number down : ℕ) → Option ℕ
after_mark number down =
    when leb five_marks number then None
    else when eqb down (span dot) then (when eqb number 0 then None else Some (grown number dot))
    else when eqb down (span dash) then Some (grown number dash)
    else None
