-- The same as single calls: the state, every report, and why it stopped are those of single calls made in order.
-- Assumes nothing.
use Rattle.std.specs.Prelude.{ℕ, ◌-◌, ◌*◌, ◌≤◌, ◌≡◌, true, false, List, [], ◌∷◌, ◌++◌, T, length, take, drop}
use Rattle.basics.specs.Outcome.{Outcome, written}
use Rattle.frames.specs.Answer.{is_reported}
use Rattle.frames.specs.Kind.{report_bytes}
use Rattle.frames.specs.declared.answer.Answer.{Answer}
use Rattle.frames.specs.declared.answer.Answer.TheVariants.{Done, ShortRoom, NoInput}
use Rattle.supervisor.specs.Range.{in_range}
use Rattle.supervisor.specs.History.{Call, called, after, Roomy}
use Rattle.supervisor.specs.declared.state.State.{State}
use Rattle.pass.specs.Pass.{frames_in, pass_of}
use Rattle.pass.specs.declared.Passed.{Passed}

-- what single calls are handed
abbrev pub inputs_of : List Call → List (List ℕ)
inputs_of [] = []
inputs_of (c ∷ cs) = c.input ∷ inputs_of cs

-- each of them gets a report
abbrev pub AllReported : State → List Call → Type 0
AllReported s [] = Unit {0}
AllReported s (c ∷ cs) =
    (is_reported (called s c).result.answer ≡ true) × AllReported (called s c).result.state cs

-- their reports, end to end
abbrev pub reports_of : State → List Call → List ℕ
reports_of s [] = []
reports_of s (c ∷ cs) = take report_bytes (called s c).room ++ reports_of (called s c).result.state cs

-- why a pass stops where so many bytes of room and these calls are left: none is; there is no room for the next one's
-- report; or else the next one's own answer, which is then no report's
pub data Stops (s : State) (spare : ℕ) : List Call → Answer → Type 0 where
  none : Stops s spare [] Done
  full : {c : Call} {cs : List Call} → (report_bytes ≤ spare → ⊥) → Stops s spare (c ∷ cs) ShortRoom
  refused :
      {c : Call} {cs : List Call} → report_bytes ≤ spare → is_reported (called s c).result.answer ≡ false →
      Stops s spare (c ∷ cs) (called s c).result.answer

-- a pass does as many calls of a list as it says, and leaves what they leave
pub record Does (s : State) (cs : List Call) (room : List ℕ) (after_pass : Outcome Passed) : Type 0 where
  pub count : after_pass.result.reported ≤ length cs
  pub reported : AllReported s (take after_pass.result.reported cs)
  pub state : after_pass.result.state ≡ after s (take after_pass.result.reported cs)
  pub reports : after_pass.room ≡ written (reports_of s (take after_pass.result.reported cs)) room
  pub stops :
      Stops after_pass.result.state (length room - after_pass.result.reported * report_bytes)
      (drop after_pass.result.reported cs) after_pass.result.answer

-- whatever rooms of 11 bytes or more the single calls have
abbrev pub AsSingleCalls : Type 0
AsSingleCalls =
    (s : State) (input room : List ℕ) (cs : List Call) → T (in_range s) → inputs_of cs ≡ frames_in input → Roomy cs →
    Does s cs room (pass_of s input room)

-- 3 is never given
abbrev pub NeverThree : Type 0
NeverThree = (s : State) (input room : List ℕ) → (pass_of s input room).result.answer ≡ NoInput → ⊥
