-- A piece of a stream: its frames entered one after the other, and what is not used yet kept at its front.
-- Assumes nothing.
use Rattle.std.specs.Prelude.{ℕ, zero, suc, ◌+◌, ◌-◌, Bool, List, ◌++◌, length, take, drop}
use Rattle.basics.specs.Outcome.{Outcome, outcome, written}
use Rattle.frame_log.specs.Entry.{enter_of}
use Rattle.frame_log.specs.declared.entry.Entry.{Entry}
use Rattle.frame_log.specs.declared.entry.Entry.TheVariants.{Line, Last, More, Full}
use Rattle.frame_log.specs.declared.entry.Log.{Log}
use Rattle.stream.specs.declared.piece.Filled.{Filled}

-- an entry that ends a piece, with the bytes of its line
abbrev pub ending : Entry → Log → (line : ℕ) (room : List ℕ) → Outcome Filled
ending e log line room = outcome (record { entry = e; log = log; used = 0; lines = line }) room

-- so many bytes used and so many bytes of lines at the front of a room, then what the rest gives
abbrev pub following : (used lines : ℕ) (room : List ℕ) → Outcome Filled → Outcome Filled
following used lines room rest =
    outcome (record {
      entry = rest.result.entry;
      log = rest.result.log;
      used = used + rest.result.used;
      lines = lines + rest.result.lines;
    }) (take lines room ++ rest.room)

-- a line is followed by the rest of the piece; any other entry ends it
abbrev pub continued : Entry → Log → (room : List ℕ) → (rest : (frame line : ℕ) → Outcome Filled) → Outcome Filled
continued (Line frame line) log room rest = following frame line room (rest frame line)
continued (Last line) log room rest = ending (Last line) log line room
continued More log room rest = ending More log 0 room
continued Full log room rest = ending Full log 0 room

-- frame after frame is entered, as long as there is a whole one and room for its line; at most so many entries
unfoldable pub fill_up_to : (entries : ℕ) → Log → (bytes : List ℕ) (ended : Bool) (room : List ℕ) → Outcome Filled
fill_up_to zero log bytes ended room = ending More log 0 room
fill_up_to (suc entries) log bytes ended room =
    let entered = enter_of log bytes ended room in
    continued entered.result.entry entered.result.log entered.room
    (λ frame line. fill_up_to entries entered.result.log (drop frame bytes) ended (drop line entered.room))

-- the same to the end: a frame has a byte or more, so a piece has no more frames than bytes, and one entry ends it
unfoldable pub fill_of : Log → (bytes : List ℕ) (ended : Bool) (room : List ℕ) → Outcome Filled
fill_of log bytes ended room = fill_up_to (suc (length bytes)) log bytes ended room

-- the bytes from one place to another, moved to the front, and how many they are; those past them stay
unfoldable pub keep_of : (bytes : List ℕ) (from to : ℕ) → Outcome ℕ
keep_of bytes from to = outcome (to - from) (written (take (to - from) (drop from bytes)) bytes)
