-- Heard on the ground: the beacon of a state, keyed and read back, is the text that the board wrote, the message of an
-- extended one among it; two states whose complete beacons sound alike have the same mode, tension, and modules on and
-- failed, and two whose extended ones do have the same message too.
-- Assumes nothing.
use Rattle.std.specs.Prelude.{ℕ, ◌≤◌, ◌≡◌, List, Result, Ok, T, length}
use Rattle.basics.specs.Outcome.{Outcome, outcome, written}
use Rattle.modules.specs.Masks.{masks_of}
use Rattle.supervisor.specs.Range.{in_range}
use Rattle.supervisor.specs.State.{mode_number}
use Rattle.supervisor.specs.declared.state.State.{State}
use Rattle.morse.specs.Units.{units_of}
use Rattle.morse.specs.Keying.{key_of}
use Rattle.hearing.specs.Reading.{Read}
use Rattle.hearing.specs.declared.reading.ReadFault.{ReadFault}
use Rattle.beacon.specs.Text.{text_of, message_text, has_text}
use Rattle.beacon.specs.Writing.{beacon_of}
use Rattle.supervisor.specs.declared.form.Form.{Form}
use Rattle.supervisor.specs.declared.form.Form.TheVariants.{Basic, Complete, Extended}

-- in range, with eight modules, as every state of the code has
pub record Whole (s : State) : Type 0 where
  pub valid : T (in_range s)
  pub eight : length s.modules ≡ 8

-- the units of a state's beacon
abbrev pub sound : Form → State → List ℕ
sound form s = units_of (text_of form s)

-- a text is written into a page, its units are keyed into the air, and reading them on the ground gives the text: each
-- of the three is done, and leaves what it wrote at the front of its room
pub record IsHeard (form : Form) (s : State) (page air ground : List ℕ) : Type 0 where
  pub text : List ℕ
  pub wrote : beacon_of form s page ≡ outcome (Ok (length text)) (written text page)
  pub units : List ℕ
  pub keyed : key_of text air ≡ outcome (Ok (length units)) (written units air)
  pub heard :
      (after : Outcome (Result ℕ ReadFault)) → Read units ground after →
      after ≡ outcome (Ok (length text)) (written text ground)

-- the beacon of a form is had: an extended one where a message is kept
abbrev pub Has : Form → State → Type 0
Has form s = T (has_text form s.message.length)

-- with room: so many bytes for the text, and a byte for each unit
abbrev pub HeardWith : Form → (bytes : ℕ) → Type 0
HeardWith form bytes =
    (s : State) → Whole s → Has form s → (page air ground : List ℕ) → bytes ≤ length page →
    length (sound form s) ≤ length air → bytes ≤ length ground → IsHeard form s page air ground

-- two states whose beacons of a form sound alike look alike
abbrev pub Tells : Form → {Look : Type 0} → (State → Look) → Type 0
Tells form look =
    (s t : State) → Whole s → Whole t → Has form s → Has form t → sound form s ≡ sound form t → look s ≡ look t

-- what is heard, and what it tells
pub record OnTheGround : Type 0 where
  pub basic : HeardWith Basic 10
  pub complete : HeardWith Complete 16
  pub extended : HeardWith Extended 33
  pub mode : Tells Complete (λ s. mode_number s.watch.mode)
  pub tension : Tells Complete (λ s. s.battery.tension)
  pub on : Tells Complete (λ s. (masks_of s.modules).on)
  pub failed : Tells Complete (λ s. (masks_of s.modules).failed)
  pub message : Tells Extended message_text
  -- and all that a complete one tells
  pub more : (look : State → ℕ) → Tells Complete look → Tells Extended look
