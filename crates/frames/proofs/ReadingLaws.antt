-- Laws of reading: the totals, when the fields of a kind are read, which numbers a refusal has, and what an accepted frame holds.
-- Assumes nothing.
use Rattle.std.proofs.Common.{◌≡◌, ℕ, ◌<◌, Bool, true, false, ◌&&◌, T, eqb, leb, List, [], ◌∷◌, length, Ok, Err, refl, true≢false, arith, eqb-true}
use Rattle.basics.specs.Choice.{within, word}
use Rattle.basics.proofs.ChoiceLaws.{is_true, holds, either, decided, and_left, and_right, within_low, within_high, within_of}
use Rattle.modules.specs.Groups.{is_mission}
use Rattle.frames.specs.Answer.{answer_number}
use Rattle.frames.specs.Kind.{total_of}
use Rattle.frames.specs.Kind.{tick_kind, battery_kind, antennas_kind, order_kind, thresholds_kind, timed_kind}
use Rattle.frames.specs.Sender.{payload_origin, is_origin, origin_number, origin_from}
use Rattle.frames.specs.Reading.{byte_at, word_at, last_module, is_reading, are_thresholds, are_minutes, is_foreign}
use Rattle.frames.specs.Reading.{Reading, sender_from, of_ground, fields_of, read_frame}
use Rattle.frames.specs.Reading.{battery_fields, antennas_fields, order_fields, timed_fields, thresholds_fields, greeting_fields}
use Rattle.frames.specs.Greeting.{is_greeting, greeting_text}
use Rattle.frames.specs.declared.sender.Sender.{Sender}
use Rattle.frames.specs.declared.sender.Origin.{Origin}
use Rattle.frames.specs.declared.sender.Origin.TheVariants.{Ground, Payload}
use Rattle.frames.specs.declared.command.Command.{Command}
use Rattle.frames.specs.declared.command.Command.TheVariants.{Order, Timed, Thresholds, Greeting}
use Rattle.frames.specs.declared.frame.Frame.{Frame}
use Rattle.frames.specs.declared.frame.Frame.TheVariants as frame

-- the fields of a command, and the text beside it, are in their ranges; a timed order is for one of the mission four, and
-- thresholds and greetings are ground's: those of the payload are never read
abbrev pub FitsCommand : Sender → Command → (text : List ℕ) → Type 0
FitsCommand sender (Order which on) text = Unit {0}
FitsCommand sender (Timed which minutes) text = record { mission : T (is_mission which); minutes : T (are_minutes minutes) }
FitsCommand sender (Thresholds ascend descend) text = record { fair : T (are_thresholds ascend descend); ground : sender.origin ≡ Ground }
FitsCommand sender (Greeting repeats length) text = record { fair : T (is_greeting length text); ground : sender.origin ≡ Ground }

-- the fields of a frame
abbrev pub Fits : Frame → (text : List ℕ) → Type 0
Fits (frame.Tick shorts) text = Unit {0}
Fits (frame.Battery tension) text = T (is_reading tension)
Fits (frame.Antennas deployed) text = Unit {0}
Fits (frame.Command sender command) text = FitsCommand sender command text

-- a frame that passes checks 3 to 7
abbrev pub is_accepted : Reading → Bool
is_accepted (Err answer) = false
is_accepted (Ok f) = true

-- what is refused has an answer from one to 7, what is accepted has its fields in range
abbrev SoundFrom : (lowest : ℕ) (text : List ℕ) → Reading → Type 0
SoundFrom lowest text (Err answer) = T (within lowest 7 (answer_number answer))
SoundFrom lowest text (Ok f) = Fits f text

-- from 3
abbrev pub Sound : (text : List ℕ) → Reading → Type 0
Sound text r = SoundFrom 3 text r

-- from 4
abbrev pub SoundPast : (text : List ℕ) → Reading → Type 0
SoundPast text r = SoundFrom 4 text r

past_sound : (text : List ℕ) (r : Reading) → SoundPast text r → Sound text r
past_sound text (Err answer) h =
    within_of 3 7 (answer_number answer) (omega (arith, within_low 4 7 (answer_number answer) h)) (within_high 4 7 (answer_number answer) h)
past_sound text (Ok f) h = h

-- the fields of each kind
module _ (text bytes : List ℕ) where
  abbrev SoundFields : Reading → Type 0
  SoundFields = SoundPast text

  battery_sound : SoundFields (battery_fields bytes)
  unfolding battery_fields
  battery_sound = decided SoundFields (is_reading (word_at 1 bytes)) (holds (is_reading (word_at 1 bytes))) (λ e. tt)

  antennas_sound : SoundFields (antennas_fields bytes)
  unfolding antennas_fields
  antennas_sound = either SoundFields (leb (byte_at 1 bytes) 1) tt tt

  order_sound : SoundFields (order_fields bytes)
  unfolding order_fields
  order_sound =
      either SoundFields (is_origin (byte_at 1 bytes) && leb (byte_at 4 bytes) last_module && leb (byte_at 5 bytes) 1)
      (either SoundFields (is_foreign (origin_from (byte_at 1 bytes)) (byte_at 4 bytes)) tt tt) tt

  timed_sound : SoundFields (timed_fields bytes)
  unfolding timed_fields
  timed_sound =
      let origin : Bool = is_origin (byte_at 1 bytes) in
      let mission : Bool = is_mission (byte_at 4 bytes) in
      let fair : Bool = are_minutes (word_at 5 bytes) in
      decided SoundFields (origin && mission && fair)
      (λ e. either SoundFields (is_foreign (origin_from (byte_at 1 bytes)) (byte_at 4 bytes)) tt
      (record {
        mission = and_right origin mission (and_left (origin && mission) fair (holds (origin && mission && fair) e));
        minutes = and_right (origin && mission) fair (holds (origin && mission && fair) e);
      }))
      (λ e. tt)

-- an origin that is not the payload's is ground's
is_ground : (origin : Origin) → eqb (origin_number origin) payload_origin ≡ false → origin ≡ Ground
is_ground Ground e = refl
is_ground Payload e = absurd (true≢false e)

-- what is ground's alone, if it fits from there
ground_sound : (text : List ℕ) (sender : Sender) (command : Command) → (sender.origin ≡ Ground → FitsCommand sender command text) → SoundPast text (of_ground command sender)
unfolding of_ground
ground_sound text sender command fits =
    decided (SoundPast text) (eqb (origin_number sender.origin) payload_origin) (λ p. tt) (λ p. fits (is_ground sender.origin p))

thresholds_sound : (text bytes : List ℕ) → SoundPast text (thresholds_fields bytes)
unfolding thresholds_fields
thresholds_sound text bytes =
    let origin : Bool = is_origin (byte_at 1 bytes) in
    let fair : Bool = are_thresholds (word_at 4 bytes) (word_at 6 bytes) in
    decided (SoundPast text) (origin && fair)
    (λ e. ground_sound text (sender_from bytes) (Thresholds (word_at 4 bytes) (word_at 6 bytes))
    (λ ground. record { fair = and_right origin fair (holds (origin && fair) e); ground = ground }))
    (λ e. tt)

greeting_sound : (bytes : List ℕ) → SoundPast (greeting_text bytes) (greeting_fields bytes)
unfolding greeting_fields
greeting_sound bytes =
    let origin : Bool = is_origin (byte_at 1 bytes) in
    let fair : Bool = is_greeting (byte_at 5 bytes) (greeting_text bytes) in
    decided (SoundPast (greeting_text bytes)) (origin && fair)
    (λ e. ground_sound (greeting_text bytes) (sender_from bytes) (Greeting (byte_at 4 bytes) (byte_at 5 bytes))
    (λ ground. record { fair = and_right origin fair (holds (origin && fair) e); ground = ground }))
    (λ e. tt)

module _ (bytes : List ℕ) where
  abbrev text : List ℕ
  text = greeting_text bytes

  fields_sound : (kind : ℕ) → SoundPast text (fields_of kind bytes)
  fields_sound kind =
      either (SoundPast text) (eqb kind tick_kind) tt
      (either (SoundPast text) (eqb kind battery_kind) (battery_sound text bytes)
      (either (SoundPast text) (eqb kind antennas_kind) (antennas_sound text bytes)
      (either (SoundPast text) (eqb kind order_kind) (order_sound text bytes)
      (either (SoundPast text) (eqb kind thresholds_kind) (thresholds_sound text bytes)
      (either (SoundPast text) (eqb kind timed_kind) (timed_sound text bytes) (greeting_sound bytes))))))

  -- bytes that are some are refused with 4 to 7
  pub some_sound : 0 < length bytes → SoundPast text (read_frame bytes)
  unfolding read_frame
  some_sound some =
      decided (SoundPast text) (eqb (length bytes) 0) (λ none. absurd (omega (arith, eqb-true (length bytes) 0 none)))
      (λ e. either (SoundPast text) (eqb (total_of (byte_at 0 bytes)) 0) tt
      (either (SoundPast text) (eqb (length bytes) (total_of (byte_at 0 bytes))) (fields_sound (byte_at 0 bytes)) tt))

  pub read_sound : Sound text (read_frame bytes)
  unfolding read_frame
  read_sound =
      either (Sound text) (eqb (length bytes) 0) tt
      (either (Sound text) (eqb (total_of (byte_at 0 bytes)) 0) tt
      (either (Sound text) (eqb (length bytes) (total_of (byte_at 0 bytes)))
      (past_sound text (fields_of (byte_at 0 bytes) bytes) (fields_sound (byte_at 0 bytes))) tt))

-- a battery frame in range is read as such
pub battery_read :
    (high low : ℕ) → T (is_reading (word high low)) → read_frame (battery_kind ∷ high ∷ low ∷ []) ≡ Ok (frame.Battery (word high low))
unfolding read_frame total_of battery_fields
battery_read high low r = rw (is_true (is_reading (word high low)) r)
