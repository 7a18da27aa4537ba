-- No state out of range, a hair more: refusal 2 is given, and no call brings a state back into range.
-- Assumes nothing.
use mathlib.Core.Path.{refl}
use mathlib.Core.Bool.{true}
use mathlib.Core.List.{[]}
use lib.ListN.{replicate}
use Rattle.supervisor.specs.Fresh.{fresh_state}
use Rattle.supervisor.specs.State.{with_mode, with_control}
use Rattle.supervisor.specs.History.{Call}
use Rattle.supervisor.specs.declared.state.Mode.TheVariants.{Recovery}
use Rattle.supervisor.specs.declared.state.State.{State}
use Rattle.supervisor.proofs.Rules.{rules}
use Rattle.promises.specs.InRange.{Kept, Never}
use Rattle.promises.proofs.Edge.Flights.{quiet, send}

-- a first call with a room of 10 bytes
abbrev pub short_room : Call
short_room = record { input = quiet; room = replicate 10 255 }

pub not_never_two : Never 2 → ⊥
unfolding rules
not_never_two says = says [] short_room refl

-- a state whose control count is 30 is refused, and stays as it is
abbrev pub overdue : State
overdue = with_control 30 (with_mode Recovery fresh_state)

pub not_from_anywhere : Kept (λ s. true) → ⊥
unfolding rules
not_from_anywhere says = says overdue (send quiet) tt
