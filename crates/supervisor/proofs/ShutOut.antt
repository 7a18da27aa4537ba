-- Wrong supervisors that the page names and `step`'s contract shuts out, where no edit of one operand makes them.
-- Each is defined, and arguments are named at which it breaks the contract. Assumes nothing.
use Prim.Native.Nat.{ℕ}
use native.Mathlib.Omega.{arith}
use mathlib.Core.Path.{◌≡◌, refl, sym, ap, ◌∙◌}
use mathlib.Core.Bool.{Bool, true, false, ◌&&◌, not, true≢false}
use mathlib.Core.List.{List, [], ◌∷◌, ◌++◌}
use lib.ListN.{get_or, drop, replicate}
use Rattle.basics.specs.Choice.{when◌then◌else◌}
use Rattle.basics.specs.Outcome.{Outcome, outcome}
use Rattle.modules.specs.Power.{is_on}
use Rattle.modules.specs.declared.power.Power.TheVariants.{On}
use Rattle.frames.specs.Answer.{is_reported}
use Rattle.frames.specs.Kind.{report_bytes}
use Rattle.frames.specs.Reading.{read_frame}
use Rattle.frames.specs.About.{About, about, a_tick, a_command, neither}
use Rattle.supervisor.specs.Fresh.{fresh_state}
use Rattle.supervisor.specs.State.{in_deploy_wait, module_at, end_at, with_mode, with_control, with_tension, with_ends, with_modules}
use Rattle.supervisor.specs.Ending.{ended}
use Rattle.supervisor.specs.Control.{controlled}
use Rattle.supervisor.specs.Due.{beacon_stage}
use Rattle.supervisor.specs.Tick.{before_modules, module_stage, ticked}
use Rattle.supervisor.specs.Step.{step_of}
use Rattle.supervisor.specs.declared.state.Phase.TheVariants.{Waiting, Settling}
use Rattle.supervisor.specs.declared.state.Mode.{Mode}
use Rattle.supervisor.specs.declared.state.Mode.TheVariants.{DeployWait, Recovery, Safe}
use Rattle.supervisor.specs.declared.state.State.{State}
use Rattle.supervisor.specs.declared.step.Stepped.{Stepped}
use Rattle.supervisor.proofs.Rules.{rules}

-- a supervisor, as a contract sees it
abbrev Supervisor : Type 0
Supervisor = State → (input room : List ℕ) → Outcome Stepped

-- it does not meet the contract of `step`
abbrev pub ShutOut : Supervisor → Type 0
ShutOut wrong = ((s : State) (input room : List ℕ) → wrong s input room ≡ step_of s input room) → ⊥

-- it works every frame, and writes the same report for each that has one
abbrev pub constant_report : List ℕ → Supervisor
constant_report report s input room =
    outcome (step_of s input room).result
    (when is_reported (step_of s input room).result.answer then report ++ drop report_bytes room else room)

-- it works the frames of states that pass a test, such as the fresh one, and then only reports
abbrev pub only_reports : (works_in : State → Bool) → Supervisor
only_reports works_in s input room =
    when works_in s then step_of s input room
    else outcome (record { answer = (step_of s input room).result.answer; state = s }) (step_of s input room).room

-- it leaves another state after a done tick from a state that passes a test
abbrev pub ticked_otherwise : (leaves : (shorts : ℕ) → State → State) → About → (here : Bool) → State → Outcome Stepped → Outcome Stepped
ticked_otherwise leaves (a_tick shorts) here s right =
    when here then outcome (record { answer = right.result.answer; state = leaves shorts s }) right.room else right
ticked_otherwise leaves (a_command sender command) here s right = right
ticked_otherwise leaves neither here s right = right

abbrev pub ticks_otherwise : (from : State → Bool) → (leaves : (shorts : ℕ) → State → State) → Supervisor
ticks_otherwise from leaves s input room =
    ticked_otherwise leaves (about (read_frame input)) (is_reported (step_of s input room).result.answer && from s) s (step_of s input room)

abbrev flying : State → Bool
flying s = not (in_deploy_wait s)

-- it runs the module stage before ends and control
abbrev pub modules_first : Supervisor
modules_first = ticks_otherwise flying (λ shorts s. (beacon_stage (before_modules (module_stage shorts s))).state)

-- it runs the ends stage last
abbrev pub ends_last : Supervisor
ends_last = ticks_otherwise flying (λ shorts s. ended (beacon_stage (module_stage shorts (controlled s))).state)

-- it runs the ends stage in DEPLOY_WAIT too
abbrev pub ends_while_waiting : Supervisor
ends_while_waiting = ticks_otherwise in_deploy_wait (λ shorts s. ended (ticked shorts s).state)

room : List ℕ
room = replicate 11 0

kind_of : Outcome Stepped → ℕ
kind_of o = get_or o.room 1 0

-- a tick and an antennas frame on the fresh state
abbrev tick : List ℕ
tick = 1 ∷ 0 ∷ []

abbrev antennas : List ℕ
antennas = 3 ∷ 1 ∷ []

tick_kind_told : kind_of (step_of fresh_state tick room) ≡ 1
unfolding rules room kind_of
tick_kind_told = refl

antennas_kind_told : kind_of (step_of fresh_state antennas room) ≡ 3
unfolding rules room kind_of
antennas_kind_told = refl

tick_reported : is_reported (step_of fresh_state tick room).result.answer ≡ true
unfolding rules room
tick_reported = refl

antennas_reported : is_reported (step_of fresh_state antennas room).result.answer ≡ true
unfolding rules room
antennas_reported = refl

-- their reports are of different kinds
pub constant_report_shut_out : (report : List ℕ) → ShutOut (constant_report report)
unfolding kind_of
constant_report_shut_out report meets =
    let same : kind_of (constant_report report fresh_state tick room) ≡ kind_of (constant_report report fresh_state antennas room) = rw (tick_reported, antennas_reported) in
    let one : ◌≡◌ {A = ℕ} 1 3 =
    sym (ap kind_of (meets fresh_state tick room) ∙ tick_kind_told) ∙ same ∙ ap kind_of (meets fresh_state antennas room) ∙ antennas_kind_told in
    omega arith

-- a second into the wait
abbrev pub waiting : State
waiting = with_mode (DeployWait (Waiting 1)) fresh_state

waited_of : Mode → ℕ
waited_of (DeployWait (Waiting waited)) = waited
waited_of (DeployWait (Settling seconds)) = 0
waited_of Recovery = 0
waited_of Safe = 0

two_waited : waited_of (step_of waiting tick room).result.state.watch.mode ≡ 2
unfolding rules room waited_of
two_waited = refl

-- the second tick moves the state too
pub only_reports_shut_out : (works_in : State → Bool) → works_in waiting ≡ false → ShutOut (only_reports works_in)
unfolding waited_of
only_reports_shut_out works_in idle meets =
    let same : waiting ≡ (step_of waiting tick room).result.state = ap (λ (o : Outcome Stepped). o.result.state) (rw idle at (meets waiting tick room)) in
    let one : ◌≡◌ {A = ℕ} 1 2 = ap (λ (s : State). waited_of s.watch.mode) same ∙ two_waited in
    omega arith

-- SAFE with every module on and the tension below descend, a tick before the mode is judged
abbrev pub about_to_fall : State
about_to_fall =
    with_modules (replicate 8 (record { power = On 5 0; requested = true })) (with_mode Safe (with_control 29 (with_tension 6000 fresh_state)))

-- PAYLOAD after that tick: off by the rules, and still on
payload_on : Outcome Stepped → Bool
payload_on o = is_on (module_at 4 o.result.state).power

payload_off : payload_on (step_of about_to_fall tick room) ≡ false
unfolding rules payload_on room
payload_off = refl

payload_on_shut_out : payload_on (modules_first about_to_fall tick room) ≡ true
unfolding rules payload_on room
payload_on_shut_out = refl

pub modules_first_shut_out : ShutOut modules_first
modules_first_shut_out meets = true≢false (sym payload_on_shut_out ∙ ap payload_on (meets about_to_fall tick room) ∙ payload_off)

-- SAFE with every module on, in the last second of PAYLOAD's end
abbrev pub last_second : State
last_second = with_tension 8000 (with_control 0 (with_ends (record { adcs = 0; payload = 1; sband1 = 0; sband2 = 0 }) about_to_fall))

-- PAYLOAD after the next tick: off by the rules, and still on
ended_off : payload_on (step_of last_second tick room) ≡ false
unfolding rules payload_on room
ended_off = refl

ended_on : payload_on (ends_last last_second tick room) ≡ true
unfolding rules payload_on room
ended_on = refl

pub ends_last_shut_out : ShutOut ends_last
ends_last_shut_out meets = true≢false (sym ended_on ∙ ap payload_on (meets last_second tick room) ∙ ended_off)

-- a second into the wait, with an end that runs: no flight gets there, but check 1 allows it
abbrev pub waiting_with_end : State
waiting_with_end = with_ends (record { adcs = 0; payload = 2; sband1 = 0; sband2 = 0 }) waiting

-- the end after the next tick: as it was by the rules, and a second less
end_left : Outcome Stepped → ℕ
end_left o = end_at 4 o.result.state

end_stands : end_left (step_of waiting_with_end tick room) ≡ 2
unfolding rules end_left room
end_stands = refl

end_falls : end_left (ends_while_waiting waiting_with_end tick room) ≡ 1
unfolding rules end_left room
end_falls = refl

pub ends_while_waiting_shut_out : ShutOut ends_while_waiting
ends_while_waiting_shut_out meets =
    let one : ◌≡◌ {A = ℕ} 1 2 = sym end_falls ∙ ap end_left (meets waiting_with_end tick room) ∙ end_stands in
    omega arith
