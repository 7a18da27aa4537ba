-- The alphabet: the signs of ITU-R M.1677-1 for the letters, the figures and four punctuation marks, each with the byte
-- that stands for it. A further sign is a further row.
-- Assumes nothing.
use Rattle.std.specs.Prelude.{ℕ, suc, Bool, true, false, List, [], ◌∷◌, ◌++◌, eqb}
use Rattle.basics.specs.Choice.{within}
use Rattle.basics.specs.Tables.{first_of}

-- a mark: the key down for a short or a long time
pub data Mark : Type 0 where
  dot dash : Mark

-- A to Z
abbrev pub letters : List (List Mark)
letters =
    (dot ∷ dash ∷ []) ∷  -- A
    (dash ∷ dot ∷ dot ∷ dot ∷ []) ∷  -- B
    (dash ∷ dot ∷ dash ∷ dot ∷ []) ∷  -- C
    (dash ∷ dot ∷ dot ∷ []) ∷  -- D
    (dot ∷ []) ∷  -- E
    (dot ∷ dot ∷ dash ∷ dot ∷ []) ∷  -- F
    (dash ∷ dash ∷ dot ∷ []) ∷  -- G
    (dot ∷ dot ∷ dot ∷ dot ∷ []) ∷  -- H
    (dot ∷ dot ∷ []) ∷  -- I
    (dot ∷ dash ∷ dash ∷ dash ∷ []) ∷  -- J
    (dash ∷ dot ∷ dash ∷ []) ∷  -- K
    (dot ∷ dash ∷ dot ∷ dot ∷ []) ∷  -- L
    (dash ∷ dash ∷ []) ∷  -- M
    (dash ∷ dot ∷ []) ∷  -- N
    (dash ∷ dash ∷ dash ∷ []) ∷  -- O
    (dot ∷ dash ∷ dash ∷ dot ∷ []) ∷  -- P
    (dash ∷ dash ∷ dot ∷ dash ∷ []) ∷  -- Q
    (dot ∷ dash ∷ dot ∷ []) ∷  -- R
    (dot ∷ dot ∷ dot ∷ []) ∷  -- S
    (dash ∷ []) ∷  -- T
    (dot ∷ dot ∷ dash ∷ []) ∷  -- U
    (dot ∷ dot ∷ dot ∷ dash ∷ []) ∷  -- V
    (dot ∷ dash ∷ dash ∷ []) ∷  -- W
    (dash ∷ dot ∷ dot ∷ dash ∷ []) ∷  -- X
    (dash ∷ dot ∷ dash ∷ dash ∷ []) ∷  -- Y
    (dash ∷ dash ∷ dot ∷ dot ∷ []) ∷ []  -- Z

-- 0 to 9
abbrev pub figures : List (List Mark)
figures =
    (dash ∷ dash ∷ dash ∷ dash ∷ dash ∷ []) ∷  -- 0
    (dot ∷ dash ∷ dash ∷ dash ∷ dash ∷ []) ∷  -- 1
    (dot ∷ dot ∷ dash ∷ dash ∷ dash ∷ []) ∷  -- 2
    (dot ∷ dot ∷ dot ∷ dash ∷ dash ∷ []) ∷  -- 3
    (dot ∷ dot ∷ dot ∷ dot ∷ dash ∷ []) ∷  -- 4
    (dot ∷ dot ∷ dot ∷ dot ∷ dot ∷ []) ∷  -- 5
    (dash ∷ dot ∷ dot ∷ dot ∷ dot ∷ []) ∷  -- 6
    (dash ∷ dash ∷ dot ∷ dot ∷ dot ∷ []) ∷  -- 7
    (dash ∷ dash ∷ dash ∷ dot ∷ dot ∷ []) ∷  -- 8
    (dash ∷ dash ∷ dash ∷ dash ∷ dot ∷ []) ∷ []  -- 9

-- the byte of the figure 0
abbrev pub first_figure : ℕ
first_figure = 48

-- the byte of the letter A
abbrev pub first_letter : ℕ
first_letter = 65

-- a figure, 0 to 9
abbrev pub is_figure : ℕ → Bool
is_figure c = within first_figure 57 c

-- a row of the alphabet: a byte, and the sign that it stands for
pub record Row : Type 0 where
  pub byte : ℕ
  pub sign : List Mark

abbrev pub row : ℕ → List Mark → Row
row byte sign = record { byte = byte; sign = sign }

-- the rows of signs whose bytes follow each other, from the first one's on
abbrev pub rows_from : (first : ℕ) → List (List Mark) → List Row
rows_from first [] = []
rows_from first (s ∷ ss) = row first s ∷ rows_from (suc first) ss

-- the full stop, the comma, the question mark and the slash
abbrev pub punctuation : List Row
punctuation =
    row 46 (dot ∷ dash ∷ dot ∷ dash ∷ dot ∷ dash ∷ []) ∷  -- .
    row 44 (dash ∷ dash ∷ dot ∷ dot ∷ dash ∷ dash ∷ []) ∷  -- ,
    row 63 (dot ∷ dot ∷ dash ∷ dash ∷ dot ∷ dot ∷ []) ∷  -- ?
    row 47 (dash ∷ dot ∷ dot ∷ dash ∷ dot ∷ []) ∷ []  -- /

-- all signs, each with its byte
unfoldable pub alphabet : List Row
alphabet = rows_from first_letter letters ++ (rows_from first_figure figures ++ punctuation)

-- the sign of a byte among rows; no marks where none has the byte
abbrev pub sign_among : ℕ → List Row → List Mark
sign_among c = first_of (λ r. eqb c r.byte) (λ r. r.sign) []

-- the sign of a byte; no marks where the byte has none
unfoldable pub sign_of : ℕ → List Mark
sign_of c = sign_among c alphabet

-- whether there is a sign at all
abbrev pub signed : List Mark → Bool
signed [] = false
signed (m ∷ ms) = true
