-- A refusal moves nothing, a hair more: 8 writes a report, 10 moves a serial and is given in RECOVERY too, and what is done writes.
-- Assumes nothing.
use Prim.Native.Nat.{ℕ}
use native.Mathlib.Omega.{arith}
use mathlib.Core.Path.{◌≡◌, refl, sym, ap, ◌∙◌}
use mathlib.Core.Bool.{false≢true}
use mathlib.Core.List.{List, [], ◌∷◌}
use lib.Dec.{lit≤}
use lib.ListN.{get_or, replicate}
use Rattle.supervisor.specs.Fresh.{fresh_state}
use Rattle.supervisor.specs.State.{is_deploy_wait}
use Rattle.supervisor.specs.History.{Call, after}
use Rattle.supervisor.specs.declared.state.State.{State}
use Rattle.supervisor.proofs.Rules.{rules}
use Rattle.morse.specs.Signs.{alphabet, sign_of}
use Rattle.morse.specs.Texts.{fault_of}
use Rattle.morse.specs.Units.{units_of}
use Rattle.morse.specs.Keying.{key_units, key_of}
use Rattle.hearing.specs.Reading.{Keys, Read, read_text}
use Rattle.hearing.proofs.ReadBack.{same_keying}
use Rattle.beacon.specs.Text.{basic_text}
use Rattle.beacon.specs.Writing.{beacon_of}
use Rattle.supervisor.specs.declared.form.Form.TheVariants.{Basic}
use Rattle.promises.specs.Refusals.{UntouchedTo, UnmovedTo, TenIn, KeyingFrom, ReadingFrom, BeaconFrom}
use Rattle.promises.proofs.Edge.Flights.{camera_off, camera_on, to_recovery, send, sent}

-- the same order twice: the second is answered 8, with a report in the room
abbrev pub repeated : Call
repeated = send (camera_off 1)

pub not_untouched_at_8 : UntouchedTo 8 → ⊥
unfolding rules
not_untouched_at_8 says =
    let same : ◌≡◌ {A = ℕ} 0x81 255 = ap (λ (room : List ℕ). get_or room 0 0) (says (after fresh_state (repeated ∷ [])) repeated tt).room in
    omega arith

-- the fresh board and an "on" for the camera with serial 1: answered 10, and ground's last serial is 1
abbrev pub too_soon : Call
too_soon = send (camera_on 1)

pub not_unmoved_at_10 : UnmovedTo 10 → ⊥
unfolding rules
not_unmoved_at_10 says =
    let same : ◌≡◌ {A = ℕ} 1 0 = ap (λ (s : State). s.serials.ground) (says fresh_state too_soon tt).state in
    omega arith

-- the same in RECOVERY
pub not_in_deploy_wait_alone : TenIn is_deploy_wait → ⊥
unfolding rules
not_in_deploy_wait_alone says = false≢true (says (after fresh_state (sent to_recovery)) too_soon refl).mode

-- `E` keyed into a room of 3 bytes is done, answer 0, and its unit is counted
pub not_keying_from_0 : KeyingFrom 0 → ⊥
unfolding alphabet sign_of fault_of units_of key_units key_of
not_keying_from_0 says =
    let none : ◌≡◌ {A = ℕ} 1 0 = (says (69 ∷ []) (replicate 3 255) (lit≤ tt)).count in
    omega arith

-- the fresh board's basic text, in 10 bytes
pub not_beacon_from_0 : BeaconFrom 0 → ⊥
unfolding rules basic_text beacon_of
not_beacon_from_0 says =
    let none : ◌≡◌ {A = ℕ} 10 0 = (says Basic fresh_state (replicate 10 255) (lit≤ tt)).count in
    omega arith

-- one unit down, read back into a room of 3 bytes: `E`, answer 0, and it is counted
letter : List ℕ
letter = 69 ∷ []

letter_keys : Keys letter (1 ∷ [])
unfolding letter alphabet sign_of fault_of units_of
letter_keys = record { passes = refl; same = refl }

letter_read : (room : List ℕ) → Read (1 ∷ []) room (read_text letter room)
letter_read room =
    record {
      told = λ text k. ap (λ (t : List ℕ). read_text t room) (same_keying letter text letter_keys.passes k.passes (letter_keys.same ∙ sym k.same));
      refused = λ never. absurd (never letter letter_keys);
    }

pub not_reading_from_0 : ReadingFrom 0 → ⊥
unfolding letter read_text
not_reading_from_0 says =
    let none : ◌≡◌ {A = ℕ} 1 0 = (says (1 ∷ []) (replicate 3 255) (read_text letter (replicate 3 255)) (letter_read (replicate 3 255)) (lit≤ tt)).count in
    omega arith
