-- What keying a text answers, and what it leaves in the room.
-- Assumes nothing.
use Rattle.std.specs.Prelude.{ℕ, List, Result, Ok, Err, ltb, length}
use Rattle.basics.specs.Choice.{when◌then◌else◌}
use Rattle.basics.specs.Outcome.{Outcome, outcome, written, Reply, reply}
use Rattle.morse.specs.declared.keying.KeyFault.{KeyFault}
use Rattle.morse.specs.declared.keying.KeyFault.TheVariants.{Text, NoRoom}
use Rattle.morse.specs.declared.texts.Fault.{Fault}
use Rattle.morse.specs.Answers.{done, no_room}
use Rattle.morse.specs.Texts.{fault_of, fault_number}
use Rattle.morse.specs.Units.{units_of}

-- the page's number of each refusal
abbrev pub key_fault_number : KeyFault → ℕ
key_fault_number (Text fault) = fault_number fault
key_fault_number NoRoom = no_room

-- the page's number and the count of each answer
abbrev pub key_reply : Result ℕ KeyFault → Reply
key_reply (Ok n) = reply done n
key_reply (Err refusal) = reply (key_fault_number refusal) 0

-- units into a room: 14 if it is shorter, else they are written and counted
unfoldable pub key_units : (units room : List ℕ) → Outcome (Result ℕ KeyFault)
key_units units room =
    when ltb (length room) (length units) then outcome (Err NoRoom) room
    else outcome (Ok (length units)) (written units room)

-- 11 to 13 come first; a refusal leaves the room untouched
abbrev pub key_by : Result Unit Fault → (units room : List ℕ) → Outcome (Result ℕ KeyFault)
key_by (Err fault) units room = outcome (Err (Text fault)) room
key_by (Ok _) units room = key_units units room

-- keying a text into a room
unfoldable pub key_of : (text room : List ℕ) → Outcome (Result ℕ KeyFault)
key_of text room = key_by (fault_of text) (units_of text) room
