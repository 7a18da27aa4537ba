-- `flight::calls::write_beacon` meets its contract: bytes of another layout are refused; else the text is that of the state that they say.
use mathlib.Core.Path.{sym, ◌∙◌}
use Rattle.flight.proofs.CallsLaws.{beacon_foreign, beacon_worked}
use Rattle.flight.proofs.calls.write_beacon.Goals as goal

pub returns-in_default : goal.returns-in_default
returns-in_default c = beacon_foreign _ _ (sym c.load.ensures ∙ c.in_default.is) _

pub returns : goal.returns
returns c = c.write.ensures ∙ beacon_worked _ _ _ (sym c.load.ensures ∙ c.in-Some.is) _
