-- `flight::calls::ems_step` meets its contract: bytes of another layout are refused; else the state that they say is worked, and its image
-- becomes the next state's if a report was written.
use mathlib.Core.Path.{◌≡◌, sym, ◌∙◌}
use borrow.Author.Rules.{rules}
use Rattle.std.specs.Prelude.{Some}
use Rattle.flight.specs.Loading.{fields_say}
use Rattle.flight.proofs.CallsLaws.{size_said, step_foreign, step_reported, step_refused, both_in_range}
use Rattle.flight.proofs.calls.ems_step.Goals as goal
use Rattle.flight.proofs.calls.ems_step.Goals.{then-reported, else-reported}

pub returns-in_default : goal.returns-in_default
returns-in_default c =
    simp c.number.ensures (step_foreign _ _ (sym c.load.ensures ∙ c.in_default.is) _)

pub save-requires : goal.save-requires
save-requires c =
    let say : fields_say c.args.image.now ≡ Some c.in-Some.state = sym c.load.ensures ∙ c.in-Some.is in
    let both =
    both_in_range _ _ _ say _ c.step-after.result _ c.step-after.ensures (sym c.is_reported-reported.ensures ∙ c.if-reported.true) in
    (size_said _ c.args.room.now _ say, search (both))

pub returns : goal.returns
returns c =
    let say : fields_say c.args.image.now ≡ Some c.in-Some.state = sym c.load.ensures ∙ c.in-Some.is in
    simp c.number-2.ensures
    (elim c.if-reported.branch [
      | then-reported w ↦ simp (w.image-is, w.save.ensures)
          (step_reported _ _ _ say _ c.step-after.result _ c.step-after.ensures (sym c.is_reported-reported.ensures ∙ w.if-reported.true))
      | else-reported w ↦ simp w.image-is
          (step_refused _ _ _ say _ c.step-after.result _ c.step-after.ensures
          (λ i. search rules) (sym c.is_reported-reported.ensures ∙ w.if-reported.false))
    ])
