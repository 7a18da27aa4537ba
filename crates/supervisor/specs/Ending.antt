-- The ends stage of a tick.
-- Assumes nothing.
use Rattle.modules.specs.Ends.{ends_fallen, ends_over}
use Rattle.supervisor.specs.State.{with_ends, without_requests}
use Rattle.supervisor.specs.declared.state.State.{State}

-- one is taken off a running end; as it reaches zero the request goes off
unfoldable pub ended : State → State
ended s = without_requests (ends_over s.ends) (with_ends (ends_fallen s.ends) s)
