-- A refusal moves nothing: what a call leaves, by the number of its answer, and what 8, 9 and 10 are given to.
-- Assumes nothing.
use Rattle.std.specs.Prelude.{ℕ, ◌≤◌, ◌≡◌, Bool, true, not, List, ◌++◌, Result, T, drop}
use Rattle.basics.specs.Choice.{within}
use Rattle.basics.specs.Outcome.{Reply, Outcome}
use Rattle.modules.specs.Groups.{is_mission}
use Rattle.modules.specs.Masks.{masks_of}
use Rattle.frames.specs.About.{a_command}
use Rattle.frames.specs.Frame.{head_of}
use Rattle.frames.specs.declared.command.Command.{Command}
use Rattle.frames.specs.declared.sender.Sender.{Sender}
use Rattle.frames.specs.declared.frame.Frame.TheVariants as frame
use Rattle.supervisor.specs.State.{mode_number, is_safe}
use Rattle.supervisor.specs.Command.{serial_used}
use Rattle.supervisor.specs.Report.{bytes_of}
use Rattle.supervisor.specs.History.{Call, called, answered, about_of}
use Rattle.supervisor.specs.declared.state.Mode.{Mode}
use Rattle.supervisor.specs.declared.state.State.{State}
use Rattle.morse.specs.Keying.{key_of, key_reply}
use Rattle.hearing.specs.Reading.{Read, read_reply}
use Rattle.hearing.specs.declared.reading.ReadFault.{ReadFault}
use Rattle.beacon.specs.Writing.{beacon_of, written_reply}
use Rattle.supervisor.specs.declared.form.Form.{Form}
use Rattle.promises.specs.AsTold.{SaysOn}

-- nothing was moved, and nothing written
pub record Untouched (s : State) (c : Call) : Type 0 where
  pub state : (called s c).result.state ≡ s
  pub room : (called s c).room ≡ c.room

-- a room with the report on a command at its front: kind, origin and serial of the command, the answer, mode and masks
-- of a state, and no beacon; bytes past it stay
abbrev pub report_on : Sender → Command → (answer : ℕ) → State → (room : List ℕ) → List ℕ
report_on sender command answer s room =
    bytes_of (head_of (frame.Command sender command)) answer (mode_number s.watch.mode) (masks_of s.modules) 0
    ++ drop 11 room

-- the frame is a command, an order, plain or timed, thresholds or a greeting; nothing was moved but what `moves` says,
-- and its report is there
pub record TurnedDown (moves : Sender → State → State) (s : State) (c : Call) : Type 0 where
  pub sender : Sender
  pub command : Command
  pub frame : about_of c ≡ a_command sender command
  pub state : (called s c).result.state ≡ moves sender s
  pub room : (called s c).room ≡ report_on sender command (answered s c) s c.room

-- nothing is moved
abbrev pub nothing : Sender → State → State
nothing sender s = s

-- the frame is an "on", plain or timed, for one of the mission four, in a mode that passes a test
pub record IllTimed (modes : Mode → Bool) (s : State) (c : Call) : Type 0 where
  pub which : ℕ
  pub mission : is_mission which ≡ true
  pub on : SaysOn which (about_of c)
  pub mode : modes s.watch.mode ≡ true

-- the count is 0, and nothing was written
pub record Unwritten (r : Reply) (before after : List ℕ) : Type 0 where
  pub count : r.count ≡ 0
  pub room : after ≡ before

-- `step`, at answers from 1 to a last one
abbrev pub UntouchedTo : (last : ℕ) → Type 0
UntouchedTo last = (s : State) (c : Call) → T (within 1 last (answered s c)) → Untouched s c

-- at answers from 8 to a last one
abbrev pub UnmovedTo : (last : ℕ) → Type 0
UnmovedTo last = (s : State) (c : Call) → T (within 8 last (answered s c)) → TurnedDown nothing s c

-- what is answered 10
abbrev pub TenIn : (modes : Mode → Bool) → Type 0
TenIn modes = (s : State) (c : Call) → answered s c ≡ 10 → IllTimed modes s c

-- keying, at answers from a first one on
abbrev pub KeyingFrom : (first : ℕ) → Type 0
KeyingFrom first =
    (text room : List ℕ) → first ≤ (key_reply (key_of text room).result).number →
    Unwritten (key_reply (key_of text room).result) room (key_of text room).room

-- reading back, whose contract is `Read`
abbrev pub ReadingFrom : (first : ℕ) → Type 0
ReadingFrom first =
    (units room : List ℕ) (after : Outcome (Result ℕ ReadFault)) → Read units room after →
    first ≤ (read_reply after.result).number →
    Unwritten (read_reply after.result) room after.room

-- the beacon's text
abbrev pub BeaconFrom : (first : ℕ) → Type 0
BeaconFrom first =
    (form : Form) (s : State) (room : List ℕ) → first ≤ (written_reply (beacon_of form s room).result).number →
    Unwritten (written_reply (beacon_of form s room).result) room (beacon_of form s room).room

-- outside SAFE
abbrev pub outside_safe : Mode → Bool
outside_safe mode = not (is_safe mode)

-- each call, by the numbers of its refusals
pub record Refusals : Type 0 where
  pub one_to_seven : UntouchedTo 7
  pub eight_and_nine : UnmovedTo 9
  -- the last serial of the sender's origin is now the sender's
  pub ten : (s : State) (c : Call) → answered s c ≡ 10 → TurnedDown serial_used s c
  pub ten_only : TenIn outside_safe
  -- whatever is not answered 0
  pub keying : KeyingFrom 1
  pub reading : ReadingFrom 1
  pub beacon : BeaconFrom 1
