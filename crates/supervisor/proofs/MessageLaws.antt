-- Laws of the message: what a greeting leaves is in range, and what that tells of a state's message.
-- Assumes nothing.
use Prim.Native.Nat.{ℕ}
use mathlib.Core.Bool.{◌||◌}
use mathlib.Core.List.{List}
use lib.Dec.{T, eqb}
use Rattle.basics.proofs.ChoiceLaws.{either}
use Rattle.morse.specs.Texts.{fault_of}
use Rattle.frames.specs.Greeting.{is_greeting}
use Rattle.supervisor.specs.State.{no_message}
use Rattle.frames.proofs.GreetingLaws.{Fair, fair}
use Rattle.supervisor.specs.Range.{message_in_range, in_range}
use Rattle.supervisor.specs.Message.{message_from}
use Rattle.supervisor.specs.declared.state.Message.{Message}
use Rattle.supervisor.specs.declared.state.State.{State}
use Rattle.supervisor.proofs.RangeLaws.{parts}

-- no message is in range
pub none_in_range : T (message_in_range no_message)
unfolding is_greeting fault_of
none_in_range = tt

pub kept_in_range : (repeats length : ℕ) (text : List ℕ) → T (is_greeting length text) → T (message_in_range (message_from repeats length text))
kept_in_range repeats length text fair = either (λ (m : Message). T (message_in_range m)) (eqb length 0 || eqb repeats 0) none_in_range fair

-- of a state in range, the message is within a greeting's limits
pub message_fair : (s : State) → T (in_range s) → Fair s.message.length s.message.text
message_fair s v = fair s.message.length s.message.text (parts s v).message
