-- The better battery, a hair more: the camera the same too, a fifth short, a reading out of range. Each is false.
-- Assumes nothing.
use Prim.Native.Nat.{ℕ}
use native.Mathlib.Omega.{arith}
use mathlib.Core.Path.{refl, ap}
use mathlib.Core.Bool.{Bool, false≢true}
use mathlib.Core.List.{List, [], ◌∷◌, ◌++◌}
use lib.Dec.{lit<, lit≤}
use lib.ListN.{take}
use Rattle.basics.specs.Choice.{within, bit}
use Rattle.modules.specs.Groups.{is_core}
use Rattle.supervisor.specs.Fresh.{fresh_state}
use Rattle.supervisor.specs.History.{Call, after}
use Rattle.supervisor.proofs.Rules.{rules}
use Rattle.promises.specs.TwoCraft.{TwoCraftOf, Better, AsGood, Paired, start, next, same, higher, in_reach, shorts_borne}
use Rattle.promises.proofs.Edge.Flights.{battery, short, camera, camera_on, seconds, to_recovery, to_safe, sent, sent_roomy}

-- the same calls, and the same frames but for one
module _ (readings : ℕ → Bool) where
  pub same_calls : (cs : List Call) → Paired readings cs cs
  same_calls [] = start
  same_calls (c ∷ cs) = next same (same_calls cs)

  pub but_one : {x y : List ℕ} → AsGood readings x y → (first later : List (List ℕ)) → Paired readings (sent (first ++ (x ∷ later))) (sent (first ++ (y ∷ later)))
  but_one good [] later = next good (same_calls (sent later))
  but_one good (f ∷ first) later = next same (but_one good first later)

-- what would hold after two flights that differ in a reading
module _ (modules readings : ℕ → Bool) (shorts : ℕ) (says : TwoCraftOf modules readings shorts) where
  after_all :
      (flight : (millivolts : ℕ) → List (List ℕ)) (one two : ℕ) → Paired readings (sent (flight one)) (sent (flight two)) →
      Better modules shorts (take 1000 (sent (flight one))) (after fresh_state (take 1000 (sent (flight one)))) (after fresh_state (take 1000 (sent (flight two))))
  after_all flight one two paired = says (sent (flight one)) (sent (flight two)) (sent_roomy (flight one)) (sent_roomy (flight two)) paired 1000

-- 7,000 mV on the first craft, 8,000 on the second
pub lower : AsGood in_reach (battery 7000) (battery 8000)
lower = higher 27 88 31 64 tt tt (lit≤ tt)

-- the camera, ordered on while the second craft alone is in SAFE, is requested there alone
abbrev asked : List (List ℕ)
asked = seconds 30 ++ (camera_on 1 ∷ [])

abbrev pub camera_asked : (millivolts : ℕ) → List (List ℕ)
camera_asked millivolts = to_recovery ++ (battery millivolts ∷ asked)

pub not_the_camera_alike : TwoCraftOf (λ i. bit i 0x37) in_reach shorts_borne → ⊥
unfolding rules
not_the_camera_alike says =
    false≢true (ap (λ m. m.requested) ((after_all (λ i. bit i 0x37) in_reach shorts_borne says camera_asked 7000 8000 (but_one in_reach lower to_recovery asked)).alike camera refl))

-- the camera, ordered on while the second craft alone is in SAFE, fails there by five shorts; ordered on again once the first is in SAFE too, it is
-- on there, and on the second ten minutes later
abbrev shorted : List (List ℕ)
shorted =
    seconds 30
    ++ (camera_on 1 ∷ short 16 ∷ short 16 ∷ short 16 ∷ short 16 ∷ short 16 ∷ battery 8000 ∷ (seconds 25 ++ (camera_on 2 ∷ seconds 1)))

abbrev pub camera_shorted : (millivolts : ℕ) → List (List ℕ)
camera_shorted millivolts = to_recovery ++ (battery millivolts ∷ shorted)

pub not_with_five_shorts : TwoCraftOf is_core in_reach 5 → ⊥
unfolding rules
not_with_five_shorts says = (after_all is_core in_reach 5 says camera_shorted 7000 8000 (but_one in_reach lower to_recovery shorted)).on camera (lit< tt) (lit≤ tt) tt

-- at 7,500 and 9,001 mV: the second is refused, and that craft has no reading yet, where the first crosses to SAFE
abbrev pub first_reading : (millivolts : ℕ) → List (List ℕ)
first_reading millivolts = to_recovery ++ (battery millivolts ∷ seconds 30)

pub not_with_9001 : TwoCraftOf is_core (within 5000 9001) shorts_borne → ⊥
unfolding rules
not_with_9001 says =
    let pair : AsGood (within 5000 9001) (battery 7500) (battery 9001) = higher 29 76 35 41 tt tt (lit≤ tt) in
    omega (arith, (after_all is_core (within 5000 9001) shorts_borne says first_reading 7500 9001 (but_one (within 5000 9001) pair to_recovery (seconds 30))).mode)

-- at 4,999 and 5,000 mV: the first is refused, and that craft's 8,000 stands, where the second crosses to RECOVERY
abbrev pub later_reading : (millivolts : ℕ) → List (List ℕ)
later_reading millivolts = to_safe ++ (battery millivolts ∷ seconds 30)

pub not_with_4999 : TwoCraftOf is_core (within 4999 9000) shorts_borne → ⊥
unfolding rules
not_with_4999 says =
    let pair : AsGood (within 4999 9000) (battery 4999) (battery 5000) = higher 19 135 19 136 tt tt (lit≤ tt) in
    omega (arith, (after_all is_core (within 4999 9000) shorts_borne says later_reading 4999 5000 (but_one (within 4999 9000) pair to_safe (seconds 30))).mode)
