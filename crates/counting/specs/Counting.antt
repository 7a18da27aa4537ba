-- How many modules are on.
-- Assumes nothing.
use Rattle.std.specs.Prelude.{ℕ, Result, Ok, Err}
use Rattle.basics.specs.Choice.{when◌then◌else◌}
use Rattle.modules.specs.Masks.{count_on}
use Rattle.frames.specs.declared.answer.Answer.{Answer}
use Rattle.frames.specs.declared.answer.Answer.TheVariants.{BadState}
use Rattle.supervisor.specs.Range.{in_range}
use Rattle.supervisor.specs.declared.state.State.{State}

-- how many modules are on, or 1 if the state is out of its ranges, masks that disagree with modules included
unfoldable pub modules_on_of : State → Result ℕ Answer
modules_on_of s = when in_range s then Ok (count_on s.modules) else Err BadState
