-- `flight::calls::ems_modules_on` meets its contract: bytes of another layout are refused; else the count is that of the state that they say.
use Prim.Native.Nat.{ℕ}
use mathlib.Core.Path.{ap, sym, ◌∙◌}
use Rattle.basics.specs.Outcome.{reply}
use Rattle.flight.specs.Calls.{modules_on_reply}
use Rattle.flight.proofs.CallsLaws.{count_foreign, count_worked}
use Rattle.flight.proofs.calls.ems_modules_on.Goals as goal

pub returns-in_default : goal.returns-in_default
returns-in_default c =
    ap (λ (n : ℕ). reply n 0) c.number.ensures ∙ count_foreign _ (sym c.load.ensures ∙ c.in_default.is)

pub returns-in-Ok : goal.returns-in-Ok
returns-in-Ok c =
    ap modules_on_reply c.in-Ok.ensures ∙ count_worked _ _ (sym c.load.ensures ∙ c.in-Some.is)

pub returns-in-Err : goal.returns-in-Err
returns-in-Err c =
    ap (λ (n : ℕ). reply n 0) c.number-in-Err.ensures
    ∙ ap modules_on_reply c.in-Err.ensures
    ∙ count_worked _ _ (sym c.load.ensures ∙ c.in-Some.is)
