-- No state out of range: every call keeps the state within check 1's ranges, so a flight never sees refusal 1.
-- Assumes nothing.
use Rattle.std.specs.Prelude.{ℕ, ◌≡◌, Bool, List, T}
use Rattle.supervisor.specs.Range.{in_range}
use Rattle.supervisor.specs.Fresh.{fresh_state}
use Rattle.supervisor.specs.History.{Call, called, answered, after}
use Rattle.supervisor.specs.declared.state.State.{State}

-- a call on a state that passes a test leaves one in range, whatever its bytes and its room
abbrev pub Kept : (from : State → Bool) → Type 0
Kept from = (s : State) (c : Call) → T (from s) → T (in_range (called s c).result.state)

-- after any calls from the fresh start, the next one is not answered so
abbrev pub Never : (answer : ℕ) → Type 0
Never answer = (cs : List Call) (c : Call) → answered (after fresh_state cs) c ≡ answer → ⊥

-- check 1 always passes
pub record InRange : Type 0 where
  pub kept : Kept in_range
  pub never_outside : Never 1
