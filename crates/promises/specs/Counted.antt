-- As many as are on: the masks that a board keeps are true after every call, its reports show them, and the modules that
-- are on are counted by the ones of one of them.
-- Assumes nothing.
use Rattle.std.specs.Prelude.{ℕ, ◌≡◌, Bool, true, List, Ok, Err}
use Rattle.std.specs.Int.Count.{ones}
use contract.Lifetimes.{Lfts}
use denote.Triple.Entry.{Args}
use denote.Triple.Clauses.{at_exit}
use Rattle.basics.specs.OneOutcome.{Leaves}
use Rattle.basics.specs.Outcome.{Reply, reply}
use Rattle.modules.specs.Masks.{count_on}
use Rattle.frames.specs.Answer.{is_reported}
use Rattle.frames.specs.declared.answer.Answer.{Answer}
use Rattle.frames.specs.declared.answer.Answer.TheVariants.{BadState}
use Rattle.supervisor.specs.State.{HasMasks}
use Rattle.supervisor.specs.Fresh.{fresh_state}
use Rattle.supervisor.specs.Report.{shown_in}
use Rattle.supervisor.specs.History.{Call, called, after}
use Rattle.supervisor.specs.declared.state.State.{State}
use Rattle.counting.specs.Counting.{modules_on_of}
use Rattle.flight.specs.Saving.{saved}
use Rattle.flight.specs.contracts.calls.ems_modules_on
use Rattle.flight.proofs.calls.ems_modules_on.Reads as ems_modules_on_reads

-- after any calls from the fresh start it is so
abbrev pub Reached : (State → Type 0) → Type 0
Reached IsSo = (cs : List Call) → IsSo (after fresh_state cs)

-- where the next call is answered so, the masks in its room are those that are kept after it
abbrev pub ShownWhere : (Answer → Bool) → Type 0
ShownWhere test =
    (cs : List Call) (c : Call) → test (called (after fresh_state cs) c).result.answer ≡ true →
    shown_in (called (after fresh_state cs) c).room ≡ (called (after fresh_state cs) c).result.state.masks

-- the count of a state is done, and it is so many
abbrev pub Counts : (State → ℕ) → State → Type 0
Counts many s = modules_on_of s ≡ Ok (many s)

-- it is refused with 1, and counts none
abbrev pub Uncounted : State → Type 0
Uncounted s = modules_on_of s ≡ Err BadState

-- what is so of the call that C makes, ems_modules_on(image, count): of all that its contract, as the toolchain reads it
-- from the source, lets it return
abbrev pub OfEmsModulesOn : (IsSo : (image : List ℕ) → (returned : Reply) → Type 0) → Type 0
OfEmsModulesOn IsSo =
    (κs : Lfts (ems_modules_on.ended).signature.lifetimes) (a : Args (ems_modules_on.ended).signature κs)
    (x : Leaves ems_modules_on.ended κs a) →
    ems_modules_on_reads.Learnt κs a x.0 (at_exit ems_modules_on.ended κs a x.1) →
    IsSo a.0.now (reply x.0 x.1.1.0)

-- all of it, and the count of C's call
pub record Counted : Type 0 where
  pub kept : Reached HasMasks
  pub shown : ShownWhere is_reported
  pub counted : Reached (Counts (λ s. count_on s.modules))
  pub by_ones : Reached (Counts (λ s. ones s.masks.on))
  pub refused : (s : State) → (HasMasks s → ⊥) → Uncounted s
  pub in_c :
      OfEmsModulesOn
      (λ image returned. Reached (λ s. image ≡ saved s → returned ≡ reply 0 (count_on s.modules)))
