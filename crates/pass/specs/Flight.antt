-- A pass is a flight: passes in a row leave the state that single calls leave, one for each frame that got a report.
-- Assumes nothing.
use Rattle.std.specs.Prelude.{ℕ, ◌≡◌, List, [], ◌∷◌, ◌++◌, take, replicate}
use Rattle.basics.specs.Outcome.{Outcome}
use Rattle.frames.specs.Kind.{report_bytes}
use Rattle.supervisor.specs.History.{Call, after, Roomy}
use Rattle.supervisor.specs.declared.state.State.{State}
use Rattle.pass.specs.Pass.{frames_in, pass_of}
use Rattle.pass.specs.declared.Passed.{Passed}

-- what a caller hands to `pass` beside the state: the frames, end to end, and the room as it is before the call
pub record Pass : Type 0 where
  pub input : List ℕ
  pub room : List ℕ

-- all that it leaves, as the contract of `pass` gives it
abbrev pub passed : State → Pass → Outcome Passed
passed s p = pass_of s p.input p.room

-- the state after passes in a row
abbrev pub after_passes : State → List Pass → State
after_passes s [] = s
after_passes s (p ∷ ps) = after_passes (passed s p).result.state ps

-- single calls with these frames, each with room for its report
abbrev pub singles : List (List ℕ) → List Call
singles [] = []
singles (frame ∷ frames) = record { input = frame; room = replicate report_bytes 0 } ∷ singles frames

-- those that a pass comes to
abbrev pub calls_of : State → Pass → List Call
calls_of s p = take (passed s p).result.reported (singles (frames_in p.input))

-- the flight that passes in a row come to
abbrev pub flown : State → List Pass → List Call
flown s [] = []
flown s (p ∷ ps) = calls_of s p ++ flown (passed s p).result.state ps

-- every promise about flights is one about passes
pub record IsAFlight (s : State) (ps : List Pass) : Type 0 where
  pub state : after_passes s ps ≡ after s (flown s ps)
  pub roomy : Roomy (flown s ps)

abbrev pub PassesFly : Type 0
PassesFly = (s : State) (ps : List Pass) → IsAFlight s ps
