-- What reading answers and leaves in the room, whichever units it is given.
-- Assumes nothing.
use Rattle.std.specs.Prelude.{ℕ, ◌≡◌, List, Result, Ok, Err, ltb, length}
use Rattle.basics.specs.Choice.{when◌then◌else◌}
use Rattle.basics.specs.Outcome.{Outcome, outcome, written, Reply, reply}
use Rattle.hearing.specs.declared.reading.ReadFault.{ReadFault}
use Rattle.hearing.specs.declared.reading.ReadFault.TheVariants.{NotAKeying, NoRoom}
use Rattle.morse.specs.Answers.{done, no_room, not_a_keying}
use Rattle.morse.specs.Texts.{fault_of}
use Rattle.morse.specs.Units.{units_of}

-- the page's number of each refusal
abbrev pub read_fault_number : ReadFault → ℕ
read_fault_number NotAKeying = not_a_keying
read_fault_number NoRoom = no_room

-- the page's number and the count of each answer
abbrev pub read_reply : Result ℕ ReadFault → Reply
read_reply (Ok n) = reply done n
read_reply (Err refusal) = reply (read_fault_number refusal) 0

-- the units are exactly the keying of the text, and the text passes 11 to 13
pub record Keys (text units : List ℕ) : Type 0 where
  pub passes : fault_of text ≡ Ok tt
  pub same : units_of text ≡ units

-- a text into a room: 14 if it is shorter, else the text is written, and its length returned
unfoldable pub read_text : (text room : List ℕ) → Outcome (Result ℕ ReadFault)
read_text text room =
    when ltb (length room) (length text) then outcome (Err NoRoom) room
    else outcome (Ok (length text)) (written text room)

-- reading units into a room: the text of which they are the keying, or, where there is none, 15 and the room untouched
pub record Read (units room : List ℕ) (after : Outcome (Result ℕ ReadFault)) : Type 0 where
  pub told : (text : List ℕ) → Keys text units → after ≡ read_text text room
  pub refused : ((text : List ℕ) → Keys text units → ⊥) → after ≡ outcome (Err NotAKeying) room
