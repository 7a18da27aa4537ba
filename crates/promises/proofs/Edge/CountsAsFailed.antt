-- It counts as failed, a hair more: not though it was on for 60 clean ticks in a row, not a short sooner, not after nine
-- ticks, and not again after 601.
-- Assumes nothing.
use Prim.Native.Nat.{ℕ}
use native.Mathlib.Omega.{arith}
use mathlib.Core.Path.{refl, ap}
use mathlib.Core.Bool.{false≢true}
use mathlib.Core.Logic.{inl}
use mathlib.Core.List.{List, [], ◌∷◌, ◌++◌}
use lib.Dec.{lit<}
use lib.ListN.{replicate}
use Rattle.modules.specs.Power.{is_failed}
use Rattle.modules.specs.declared.power.Power.TheVariants.{Off, Failed}
use Rattle.supervisor.specs.Fresh.{fresh_state}
use Rattle.supervisor.specs.History.{Call, after}
use Rattle.supervisor.specs.declared.state.State.{State}
use Rattle.supervisor.proofs.Rules.{rules}
use Rattle.promises.specs.CountsAsFailed.{Tried, TriesFall, FailsWith, ComesTo}
use Rattle.promises.proofs.Edge.Flights.{quiet, short, comm2, seconds, to_recovery, send, sent}

-- in RECOVERY, before its first start, COMM2 has five tries; each short takes one
abbrev pub comm2_shorted : (times : ℕ) → State
comm2_shorted times = after fresh_state (sent (to_recovery ++ replicate times (short 4)))

-- with one try left it starts, and is on for 60 clean ticks: all five are back, and a short leaves four
abbrev pub a_minute_on : List Call
a_minute_on = sent (seconds 61)

minute_tried : Tried 61 comm2 1 (comm2_shorted 4) a_minute_on
unfolding rules
minute_tried = record { flies = tt; begins = inl refl; row = refl }

pub not_over_a_minute : TriesFall 61 → ⊥
unfolding rules
not_over_a_minute says = omega (arith, says comm2 1 (comm2_shorted 4) a_minute_on minute_tried (lit< tt))

pub not_failed_after_a_minute : FailsWith 61 0 → ⊥
unfolding rules
not_failed_after_a_minute says = false≢true (ap is_failed (says comm2 1 (comm2_shorted 4) a_minute_on (send (short 4)) minute_tried tt refl))

-- with two tries left a short leaves one
pub not_a_short_sooner : FailsWith 60 1 → ⊥
unfolding rules
not_a_short_sooner says =
    false≢true (ap is_failed (says comm2 2 (comm2_shorted 3) [] (send (short 4)) (record { flies = tt; begins = inl refl; row = refl }) tt refl))

-- COMM2 comes up cleanly and shorts a second later: after nine ticks it is on, with its last try
abbrev pub nine_ticks : List (List ℕ)
nine_ticks = quiet ∷ short 4 ∷ quiet ∷ short 4 ∷ quiet ∷ short 4 ∷ quiet ∷ short 4 ∷ quiet ∷ []

pub not_after_nine : ComesTo 9 (Off 5) (Failed 600) → ⊥
unfolding rules
not_after_nine says = false≢true (ap is_failed (says comm2 (comm2_shorted 0) (sent nine_ticks) tt refl tt refl))

-- failed by five shorts it waits for 600, and starts: after 601 ticks it is on, with one try
pub not_again_after_601 : ComesTo 601 (Failed 600) (Failed 600) → ⊥
unfolding rules
not_again_after_601 says = false≢true (ap is_failed (says comm2 (comm2_shorted 5) (sent (seconds 601)) tt refl tt refl))
