-- Frames, flights made of them, and the calls that send a flight.
-- Assumes nothing.
use Prim.Native.Nat.{ℕ, ◌-◌, ◌/◌, ◌%◌}
use lib.Dec.{lit≤}
use mathlib.Core.List.{List, [], ◌∷◌, ◌++◌, map}
use lib.ListN.{length, replicate}
use Rattle.supervisor.specs.History.{Call, Roomy}

-- a second without shorts
abbrev pub quiet : List ℕ
quiet = 1 ∷ 0 ∷ []

-- a second with a mask of shorts
abbrev pub short : (mask : ℕ) → List ℕ
short mask = 1 ∷ mask ∷ []

-- a battery reading in millivolts
abbrev pub battery : (millivolts : ℕ) → List ℕ
battery millivolts = 2 ∷ millivolts / 256 ∷ millivolts % 256 ∷ []

-- the antennas are out
abbrev pub antennas_out : List ℕ
antennas_out = 3 ∷ 1 ∷ []

-- ground's order for a module, 0 off or 1 on
abbrev pub order : (serial which wanted : ℕ) → List ℕ
order serial which wanted = 4 ∷ 1 ∷ serial / 256 ∷ serial % 256 ∷ which ∷ wanted ∷ []

-- COMM2 and PAYLOAD by their numbers
abbrev pub comm2 : ℕ
comm2 = 2

abbrev pub camera : ℕ
camera = 4

-- ground's orders for them
abbrev pub comm2_off : (serial : ℕ) → List ℕ
comm2_off serial = order serial comm2 0

abbrev pub camera_off : (serial : ℕ) → List ℕ
camera_off serial = order serial camera 0

abbrev pub camera_on : (serial : ℕ) → List ℕ
camera_on serial = order serial camera 1

-- ground's order for the camera to run for so many minutes
abbrev pub camera_for : (serial minutes : ℕ) → List ℕ
camera_for serial minutes = 6 ∷ 1 ∷ serial / 256 ∷ serial % 256 ∷ camera ∷ minutes / 256 ∷ minutes % 256 ∷ []

-- ground's greeting: a text for so many beacons
abbrev pub greeting : (serial repeats : ℕ) (text : List ℕ) → List ℕ
greeting serial repeats text =
    7 ∷ 1 ∷ serial / 256 ∷ serial % 256 ∷ repeats ∷ length text ∷ (text ++ replicate (16 - length text) 0)

-- `HI`
abbrev pub hi : List ℕ
hi = 72 ∷ 73 ∷ []

-- so many seconds without shorts
abbrev pub seconds : ℕ → List (List ℕ)
seconds n = replicate n quiet

-- antennas reported at once, and 901 ticks: RECOVERY
abbrev pub to_recovery : List (List ℕ)
to_recovery = antennas_out ∷ seconds 901

-- then 8,000 mV, which is judged after 30 ticks: SAFE
abbrev pub to_safe : List (List ℕ)
to_safe = to_recovery ++ (battery 8000 ∷ seconds 30)

-- then the camera is ordered on, and is on after a tick
abbrev pub camera_runs : List (List ℕ)
camera_runs = to_safe ++ (camera_on 1 ∷ seconds 1)

-- RECOVERY, 8,000 mV, and 29 ticks: the next one crosses upward
abbrev pub about_to_rise : List (List ℕ)
about_to_rise = to_recovery ++ (battery 8000 ∷ seconds 29)

-- SAFE with the camera on, then 6,900 mV, and 28 ticks more: the next one crosses downward
abbrev pub about_to_fall : List (List ℕ)
about_to_fall = camera_runs ++ (battery 6900 ∷ seconds 28)

-- a call with room for its report
abbrev pub send : List ℕ → Call
send bytes = record { input = bytes; room = replicate 11 255 }

-- a flight
abbrev pub sent : List (List ℕ) → List Call
sent frames = map send frames

pub sent_roomy : (frames : List (List ℕ)) → Roomy (sent frames)
sent_roomy [] = tt
sent_roomy (f ∷ frames) = (lit≤ tt, sent_roomy frames)
