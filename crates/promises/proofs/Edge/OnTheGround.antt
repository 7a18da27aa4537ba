-- Heard on the ground, a hair more: a byte fewer is too few for each text; the basic beacon does not tell what is on, the complete one
-- neither what is requested nor the message, and the extended one not how often it is still to be sent.
-- Assumes nothing.
use Prim.Native.Nat.{ℕ}
use native.Mathlib.Omega.{arith}
use mathlib.Core.Path.{◌≡◌, refl, ap}
use mathlib.Core.List.{List, [], ◌∷◌}
use lib.Dec.{lit≤}
use lib.ListN.{length, replicate}
use Rattle.std.specs.Prelude.{Result}
use Rattle.basics.specs.Outcome.{Outcome}
use Rattle.modules.specs.Masks.{masks_of}
use Rattle.supervisor.specs.Fresh.{fresh_state}
use Rattle.supervisor.specs.State.{with_mode}
use Rattle.supervisor.specs.History.{after}
use Rattle.supervisor.specs.declared.state.Mode.TheVariants.{Recovery}
use Rattle.supervisor.specs.declared.state.State.{State}
use Rattle.supervisor.proofs.Rules.{rules}
use Rattle.morse.specs.Signs.{alphabet, sign_of}
use Rattle.morse.specs.Units.{units_of}
use Rattle.beacon.specs.Text.{basic_text, complete_text, message_text, extended_text}
use Rattle.beacon.specs.Writing.{beacon_of, written_reply}
use Rattle.supervisor.specs.declared.form.Form.TheVariants.{Basic, Complete, Extended}
use Rattle.beacon.specs.declared.writing.WriteFault.{WriteFault}
use Rattle.promises.specs.OnTheGround.{HeardWith, Tells}
use Rattle.promises.proofs.Edge.Flights.{quiet, comm2_off, greeting, hi, send}

-- the number that writing answers
abbrev number : Outcome (Result ℕ WriteFault) → ℕ
number o = (written_reply o.result).number

-- the fresh board's basic text into a page of 9 bytes is refused with 14
pub not_with_9 : HeardWith Basic 9 → ⊥
unfolding rules alphabet sign_of units_of basic_text beacon_of
not_with_9 says =
    let done : ◌≡◌ {A = ℕ} 14 0 =
    ap number (says fresh_state (record { valid = tt; eight = refl }) tt (replicate 9 255) (replicate 400 255) (replicate 9 255) (lit≤ tt) (lit≤ tt) (lit≤ tt)).wrote in
    omega arith

-- its complete text into one of 15
pub not_with_15 : HeardWith Complete 15 → ⊥
unfolding rules alphabet sign_of units_of basic_text complete_text beacon_of
not_with_15 says =
    let done : ◌≡◌ {A = ℕ} 14 0 =
    ap number (says fresh_state (record { valid = tt; eight = refl }) tt (replicate 15 255) (replicate 400 255) (replicate 15 255) (lit≤ tt) (lit≤ tt) (lit≤ tt)).wrote in
    omega arith

-- and, once it keeps sixteen characters, its extended text into one of 32
abbrev pub keeping : (repeats : ℕ) (text : List ℕ) → State
keeping repeats text = after fresh_state (send (greeting 1 repeats text) ∷ [])

abbrev pub sixteen : List ℕ
sixteen = replicate 16 69

pub not_with_32 : HeardWith Extended 32 → ⊥
unfolding rules alphabet sign_of units_of basic_text complete_text extended_text beacon_of
not_with_32 says =
    let done : ◌≡◌ {A = ℕ} 14 0 =
    ap number
    (says (keeping 1 sixteen) (record { valid = tt; eight = refl }) tt (replicate 32 255) (replicate 700 255) (replicate 32 255) (lit≤ tt) (lit≤ tt) (lit≤ tt)).wrote in
    omega arith

-- a board in RECOVERY, and a tick later, when the core four are on: both say `EMS R 0000`
abbrev pub recovering : State
recovering = with_mode Recovery fresh_state

pub not_on_by_basic : Tells Basic (λ s. (masks_of s.modules).on) → ⊥
unfolding rules alphabet sign_of units_of basic_text
not_on_by_basic says =
    let same : ◌≡◌ {A = ℕ} 0 0x27 =
    says recovering (after recovering (send quiet ∷ [])) (record { valid = tt; eight = refl }) (record { valid = tt; eight = refl }) tt tt refl in
    omega arith

-- the fresh board, and the same after an "off" for COMM2: both say `EMS D 0000 00 00`
pub not_requests_by_complete : Tells Complete (λ s. (masks_of s.modules).requested) → ⊥
unfolding rules alphabet sign_of units_of basic_text complete_text
not_requests_by_complete says =
    let same : ◌≡◌ {A = ℕ} 0x27 0x23 =
    says fresh_state (after fresh_state (send (comm2_off 1) ∷ [])) (record { valid = tt; eight = refl }) (record { valid = tt; eight = refl }) tt tt refl in
    omega arith

-- the fresh board, and the same once it keeps a message: both complete beacons are the same
pub not_message_by_complete : Tells Complete message_text → ⊥
unfolding rules alphabet sign_of units_of basic_text complete_text
not_message_by_complete says =
    let same : ◌≡◌ {A = ℕ} 0 2 =
    ap length (says fresh_state (keeping 1 hi) (record { valid = tt; eight = refl }) (record { valid = tt; eight = refl }) tt tt refl) in
    omega arith

-- a message that is to be sent once, and twice: both extended beacons are the same
pub not_repeats_by_extended : Tells Extended (λ s. s.message.repeats) → ⊥
unfolding rules alphabet sign_of units_of basic_text complete_text extended_text
not_repeats_by_extended says =
    let same : ◌≡◌ {A = ℕ} 1 2 =
    says (keeping 1 hi) (keeping 2 hi) (record { valid = tt; eight = refl }) (record { valid = tt; eight = refl }) tt tt refl in
    omega arith
