-- A line of the log.
-- Assumes nothing.
use Rattle.std.specs.Prelude.{ℕ, ◌+◌, ◌*◌, List, [], ◌∷◌, ◌++◌, length, nat_le, Option, Some, None}
use Rattle.basics.specs.Choice.{when◌then◌else◌}
use Rattle.basics.specs.Outcome.{Outcome, outcome, written}
use Rattle.frames.specs.Answer.{answer_number}
use Rattle.frames.specs.Reading.{byte_at, word_at}
use Rattle.frames.specs.declared.answer.Answer.{Answer}
use Rattle.frame_log.specs.Text.{most_digits, decimal, hex, spaced, most_decimal, most_hex}

-- each column after a space
abbrev columns : List (List ℕ) → List ℕ
columns [] = []
columns (column ∷ more) = spaced column ++ columns more

-- what ends a line
abbrev newline : List ℕ
newline = 10 ∷ []

-- n kind origin serial answer mode requested on failed beacon:
-- kind and masks are two upper-case hex digits, the rest are decimal
unfoldable pub line_of : (n : ℕ) (report : List ℕ) → List ℕ
line_of n report =
    decimal n ++ (columns (
    hex (byte_at 1 report)
    ∷ decimal (byte_at 2 report)
    ∷ decimal (word_at 3 report)
    ∷ decimal (byte_at 5 report)
    ∷ decimal (byte_at 6 report)
    ∷ hex (byte_at 7 report)
    ∷ hex (byte_at 8 report)
    ∷ hex (byte_at 9 report)
    ∷ decimal (byte_at 10 report)
    ∷ []) ++ newline)

-- "refused"
abbrev refused_text : List ℕ
refused_text = 114 ∷ 101 ∷ 102 ∷ 117 ∷ 115 ∷ 101 ∷ 100 ∷ []

-- n refused r
unfoldable pub refused_line : (n : ℕ) → Answer → List ℕ
refused_line n answer =
    decimal n ++ (spaced refused_text ++ (spaced (decimal (answer_number answer)) ++ newline))

-- a room of so many bytes has place for every line: n, the nine columns, a newline
abbrev pub longest : ℕ
longest = most_digits + 4 * most_hex + 5 * most_decimal + 1

-- a line at the front of a room, and how long it is; a room that is too short stays as it is
unfoldable pub placed : (text room : List ℕ) → Outcome (Option ℕ)
placed text room =
    when nat_le longest (length room) then outcome (Some (length text)) (written text room)
    else outcome None room
