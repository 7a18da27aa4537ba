-- The code's form of a sign, dashes as bits; the rule that its tables meet, each for a run of bytes: which signs they are,
-- and how long; and the rule by which it works out the figures.
-- Assumes nothing.
use Rattle.std.specs.Prelude.{ℕ, zero, suc, ◌+◌, ◌-◌, ◌*◌, ◌/◌, ◌%◌, eqb}
use Rattle.std.specs.Prelude.{Bool, true, false, ◌&&◌, T, List, [], ◌∷◌, ◌++◌, length, get_or, replicate}
use Rattle.std.specs.Int.Count.{ones_in}
use Rattle.basics.specs.Choice.{when◌then◌else◌, within}
use Rattle.basics.specs.Tables.{all_below}
use Rattle.morse.specs.declared.signs.Sign.{Sign}
use Rattle.morse.specs.Signs.{Mark, dot, dash, first_figure, sign_of}
use Rattle.morse.specs.Units.{span, inside_sign, sign_units}

-- a mark from its bit: 0 for a dot, 1 for a dash
abbrev pub mark_of : ℕ → Mark
mark_of zero = dot
mark_of (suc b) = dash

-- n marks from bits, the lowest first
abbrev pub unpack : (n bits : ℕ) → List Mark
unpack zero bits = []
unpack (suc n) bits = mark_of (bits % 2) ∷ unpack n (bits / 2)

-- the marks of a sign in the code's form
unfoldable pub marks_of : Sign → List Mark
marks_of s = unpack s.len s.marks

-- how many of its marks are dashes
abbrev pub dashes : Sign → ℕ
dashes s = ones_in s.len s.marks

-- how many units a sign has by the timing rule: those of each dot and each dash, and of the gap between two marks
abbrev pub lasts : Sign → ℕ
lasts s = (s.len - dashes s) * span dot + dashes s * span dash + (s.len - 1) * inside_sign

-- whether two signs have the same marks
abbrev pub same_marks : List Mark → List Mark → Bool
same_marks [] [] = true
same_marks (dot ∷ s) (dot ∷ t) = same_marks s t
same_marks (dash ∷ s) (dash ∷ t) = same_marks s t
same_marks [] (m ∷ t) = false
same_marks (m ∷ s) [] = false
same_marks (dot ∷ s) (dash ∷ t) = false
same_marks (dash ∷ s) (dot ∷ t) = false

-- a sign of no marks
abbrev pub no_sign : Sign
no_sign = record { marks = 0; len = 0 }

-- the rule of a table at entry k: it is the sign of the byte k past the table's first, whose units are as many as its timing
-- says; a byte that has no sign has an entry of no marks
abbrev pub is_sign : (first : ℕ) → List Sign → ℕ → Bool
is_sign first table k =
    same_marks (marks_of (get_or table k no_sign)) (sign_of (first + k))
    && eqb (length (sign_units 0 (sign_of (first + k)))) (lasts (get_or table k no_sign))

-- a table has the signs of the bytes from a first to a last one
abbrev pub HasSigns : (first last : ℕ) → List Sign → Type 0
HasSigns first last table = T (all_below (is_sign first table) (last + 1 - first))

-- the first table goes from `?` to `Z`
abbrev pub first_sign : ℕ
first_sign = 63

abbrev pub last_sign : ℕ
last_sign = 90

-- the second from `,` to `/`
abbrev pub first_stop : ℕ
first_stop = 44

abbrev pub last_stop : ℕ
last_stop = 47

-- how many figures there are
abbrev pub figure_count : ℕ
figure_count = 10

-- so many marks of one kind, then of the other to five
abbrev pub to_five : ℕ → (first rest : Mark) → List Mark
to_five n first rest = replicate n first ++ replicate (5 - n) rest

-- the marks of a figure, worked out: 1 to 5 are that many dots, then dashes; 6 to 9 are one to four dashes, then dots;
-- 0 is five dashes
abbrev pub figure_marks : ℕ → List Mark
figure_marks digit =
    when within 1 5 digit then to_five digit dot dash
    else when within 6 9 digit then to_five (digit - 5) dash dot
    else to_five 5 dash dot

-- the rule gives a figure its sign
abbrev pub is_figure_sign : ℕ → Bool
is_figure_sign digit = same_marks (figure_marks digit) (sign_of (first_figure + digit))
