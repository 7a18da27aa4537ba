-- The message on the beacon.
-- Assumes nothing.
use Rattle.std.specs.Prelude.{ℕ, Bool, ◌&&◌, ◌||◌, List, eqb, ltb}
use Rattle.basics.specs.Choice.{when◌then◌else◌}
use Rattle.supervisor.specs.State.{no_message}
use Rattle.supervisor.specs.declared.state.Message.{Message}

-- a new message replaces the old; length 0 or repeats 0 clears it to all zeros
abbrev pub message_from : (repeats length : ℕ) (text : List ℕ) → Message
message_from repeats length text =
    when eqb length 0 || eqb repeats 0 then no_message
    else record { repeats = repeats; length = length; text = text }

-- a message is kept: its length is above 0
abbrev pub is_kept : (length : ℕ) → Bool
is_kept length = ltb 0 length

-- a message is kept and its repeats are above 0
abbrev pub is_to_be_sent : Message → Bool
is_to_be_sent m = is_kept m.length && ltb 0 m.repeats
