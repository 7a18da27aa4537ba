-- Cutting bytes into frames by kind.
-- Assumes nothing.
use Rattle.std.specs.Prelude.{ℕ, List, length, take, ◌==◌, nat_lt, Result, Ok, Err}
use Rattle.basics.specs.Choice.{when◌then◌else◌}
use Rattle.frames.specs.Kind.{total_of}
use Rattle.frames.specs.Reading.{byte_at}
use Rattle.frames.specs.declared.cut.Uncut.{Uncut}
use Rattle.frames.specs.declared.cut.Uncut.TheVariants.{Short, Unknown, Empty}

-- the kind, the first byte, fixes how long the frame at the front is
unfoldable pub cut_of : List ℕ → Result ℕ Uncut
cut_of bytes =
    when length bytes == 0 then Err Empty else
    when total_of (byte_at 0 bytes) == 0 then Err Unknown else
    when nat_lt (length bytes) (total_of (byte_at 0 bytes)) then Err Short else
    Ok (total_of (byte_at 0 bytes))

-- how many of so many bytes are the frame's: where its kind is unknown, or it is cut off, all of them
abbrev pub front_bytes : Result ℕ Uncut → (all : ℕ) → ℕ
front_bytes (Ok total) all = total
front_bytes (Err uncut) all = all

-- the frame at the front, as it is handed over
unfoldable pub front_of : List ℕ → List ℕ
front_of bytes = take (front_bytes (cut_of bytes) (length bytes)) bytes
