-- Dawn, a hair more: 32,769 is too far, and what was ordered off is on until the next tick.
-- Assumes nothing.
use Prim.Native.Nat.{ℕ}
use native.Mathlib.Omega.{arith}
use mathlib.Core.Path.{◌≡◌, refl}
use mathlib.Core.Bool.{true, true≢false, false≢true}
use mathlib.Core.List.{List, [], ◌∷◌, ◌++◌, append-nil, append_assoc}
use lib.Dec.{lit<, lit≤}
use Rattle.frames.specs.declared.sender.Origin.TheVariants.{Ground}
use Rattle.supervisor.specs.Fresh.{fresh_state}
use Rattle.supervisor.specs.History.{Call, about_of, answered, after}
use Rattle.supervisor.specs.State.{module_at}
use Rattle.supervisor.proofs.Rules.{rules}
use Rattle.promises.specs.AsTold.{SaysOn, SaysOff}
use Rattle.promises.specs.Dawn.{Old, StaysOff, OrderedOff, Late, memory}
use Rattle.promises.proofs.Edge.Flights.{camera, camera_off, camera_on, to_safe, camera_runs, send, sent}

-- every "on" of a history for a module, with what came before it, each where it stands
module _ (which : ℕ) (Fits : (before : List Call) (on : Call) → Type 0) where
  abbrev Ons : (before rest : List Call) → Type 0
  Ons before [] = Unit {0}
  Ons before (c ∷ rest) = (SaysOn which (about_of c) → Fits before c) × Ons (before ++ (c ∷ [])) rest

  at_on : (first before later rest : List Call) (on : Call) → Ons first rest → rest ≡ before ++ on ∷ later → SaysOn which (about_of on) → Fits (first ++ before) on
  at_on first [] later [] on h e asks = let z : ◌≡◌ {A = ℕ} 0 1 = cc in absurd (omega arith)
  at_on first [] later (c ∷ rest) on h e asks =
      let same : on ≡ c = cc in
      rw (append-nil, same) (h.0 (rw same at asks))
  at_on first (b ∷ before) later [] on h e asks = let z : ◌≡◌ {A = ℕ} 0 1 = cc in absurd (omega arith)
  at_on first (b ∷ before) later (c ∷ rest) on h e asks =
      let same : b ≡ c = cc in
      let tail : rest ≡ before ++ on ∷ later = cc in
      rw same (rw append_assoc at (at_on (first ++ (c ∷ [])) before later rest on h.1 tail asks))

-- a done "off" of ground's, with the "on"s since
module _ (reach which : ℕ) (cs : List Call) (off : Call) (since : List Call) where
  abbrev IsLate : (before : List Call) (on : Call) → Type 0
  IsLate = Late reach Ground (after fresh_state cs) off

  ordered_off : SaysOff which (about_of off) → answered (after fresh_state cs) off ≡ 0 → Ons which IsLate [] since → OrderedOff reach Ground which cs off since
  ordered_off e z ons = record { order = e; done = z; late_ons = λ before later on f asks room. at_on which IsLate [] before later since on ons f asks }

-- in SAFE the camera's "off", serial 5, is done, then an "off" with 32,772 (32,767 on): serial 3, 2 behind the first, is now 32,767 ahead of
-- the last, and so an "on" with it is done
abbrev pub overtaken : List (List ℕ)
overtaken = camera_off 32772 ∷ camera_on 3 ∷ []

late3 : IsLate 32769 camera (sent to_safe) (send (camera_off 5)) (sent overtaken) (send (camera_off 32772) ∷ []) (send (camera_on 3))
unfolding rules
late3 = record { serial = 5; first_serial = refl; taken = tt; old = 3; late_serial = refl; room = lit≤ tt; k = 2; behind = refl; soon = lit≤ tt }

pub not_old_at_32769 : Old 32769 → ⊥
unfolding rules
not_old_at_32769 old = (old Ground (after fresh_state (sent to_safe)) (send (camera_off 5)) (send (camera_off 32772) ∷ []) (send (camera_on 3)) late3).answer

pub not_dark_at_32769 : StaysOff 32769 1 → ⊥
unfolding rules
not_dark_at_32769 dark =
    let off : OrderedOff 32769 Ground camera (sent to_safe) (send (camera_off 5)) (sent overtaken) =
    ordered_off 32769 camera (sent to_safe) (send (camera_off 5)) (sent overtaken) refl refl (λ on. absurd (false≢true on), (λ on. late3, tt)) in
    true≢false (dark Ground camera (sent to_safe) (send (camera_off 5)) (sent overtaken) (lit< tt) off).requested

-- the camera is on and is ordered off: it stays on until the next tick
pub not_dark_at_once : StaysOff memory 0 → ⊥
unfolding rules
not_dark_at_once dark =
    let off : OrderedOff memory Ground camera (sent camera_runs) (send (camera_off 2)) [] =
    ordered_off memory camera (sent camera_runs) (send (camera_off 2)) [] refl refl tt in
    true≢false ((dark Ground camera (sent camera_runs) (send (camera_off 2)) [] (lit< tt) off).power (lit≤ tt))

-- the payload's own "on" is done after ground's "off"
abbrev pub payloads_own : List (List ℕ)
payloads_own = to_safe ++ (camera_off 1 ∷ (4 ∷ 2 ∷ 0 ∷ 1 ∷ camera ∷ 1 ∷ []) ∷ [])

pub payload_takes_it_back : (module_at camera (after fresh_state (sent payloads_own))).requested ≡ true
unfolding rules
payload_takes_it_back = refl
