-- Greeted as often as asked, a hair more: not once more than was asked for, and no beacon of RECOVERY uses one up.
-- Assumes nothing.
use Prim.Native.Nat.{ℕ}
use native.Mathlib.Omega.{arith}
use mathlib.Core.Path.{_≡_, refl}
use mathlib.Core.Bool.{Bool, true, false, not, _&&_}
use mathlib.Core.List.{List, [], _∷_, _++_}
use lib.Dec.{T}
use Rattle·basics.proofs.ChoiceLaws.{and-left, and-right}
use Rattle·frames.specs.declared.sender.Origin.the-variants.{Ground}
use Rattle·supervisor.specs.Fresh.{freshState}
use Rattle·supervisor.specs.History.{Call, called, after}
use Rattle·supervisor.specs.declared.state.State.{State}
use Rattle·supervisor.proofs.Rules.{rules}
use Rattle·promises·specs.specs.OnlyTicks.{doneGreeting}
use Rattle·promises·specs.specs.Greeted.{GreetedBy, Ungreeted, inSafe}
use Rattle·promises·proofs.proofs.Edge.Flights.{greeting, hi, battery, seconds, toRecovery, toSafe, send, sent}

-- no done greeting in a history, computed
abbrev silentSince : State → List Call → Bool
silentSince s [] = true
silentSince s (c ∷ cs) = not (doneGreeting s c) && silentSince (called s c .result .state) cs

no-other : (cs : List Call) (s : State) → T (silentSince s cs) → Ungreeted s cs
no-other [] s t = tt
no-other (c ∷ cs) s t =
    let greets : Bool = doneGreeting s c in
    let later : Bool = silentSince (called s c .result .state) cs in
    (not-so greets (and-left (not greets) later t), no-other cs (called s c .result .state) (and-right (not greets) later t))
  where
    not-so : (b : Bool) → T (not b) → b ≡ false
    not-so true t = absurd t
    not-so false t = refl

-- a greeting in SAFE that asks for one beacon: the second has it no more
pub not-once-more : GreetedBy inSafe 1 → ⊥
unfolding rules
not-once-more says =
    let s : State = after freshState (sent toSafe) in
    let c : Call = send (greeting 1 1 hi) in
    let cs : List Call = sent (seconds 90) in
    let second : _≡_ {A = ℕ} 2 3 =
    says 1 2 s c (record { sender = record { origin = Ground; serial = 1 }; frame = refl; done = refl }) cs (no-other cs (called s c .result .state) tt) .1 .0 in
    omega arith

-- one in RECOVERY: the basic beacon that is due first leaves it for the first one in SAFE
pub not-in-recovery : GreetedBy (λ mode. true) 0 → ⊥
unfolding rules
not-in-recovery says =
    let s : State = after freshState (sent toRecovery) in
    let c : Call = send (greeting 1 1 hi) in
    let cs : List Call = sent (seconds 300 ++ (battery 8000 ∷ seconds 60)) in
    let first : _≡_ {A = ℕ} 3 2 =
    says 1 2 s c (record { sender = record { origin = Ground; serial = 1 }; frame = refl; done = refl }) cs (no-other cs (called s c .result .state) tt) .1 .0 in
    omega arith
