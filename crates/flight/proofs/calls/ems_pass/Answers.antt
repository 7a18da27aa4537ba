-- `flight::calls::ems_pass` meets its contract: bytes of another layout are refused; else the pass begins from the state that they say,
-- and the image becomes that of the state after it if a report was written.
use mathlib.Core.Path.{◌≡◌, sym, ◌∙◌}
use native.Mathlib.Omega.{arith}
use borrow.Author.Rules.{rules}
use Rattle.std.specs.Prelude.{Some}
use Rattle.flight.specs.Loading.{fields_say}
use Rattle.flight.proofs.CallsLaws.{size_said, pass_foreign, pass_in_range, pass_worked, pass_idles}
use Rattle.flight.proofs.calls.ems_pass.Goals as goal
use Rattle.flight.proofs.calls.ems_pass.Goals.{then-passed-gt0, else-passed-gt0}

pub returns-in_default : goal.returns-in_default
returns-in_default c =
    simp c.number.ensures (pass_foreign _ _ (sym c.load.ensures ∙ c.in_default.is) _)

pub save-requires : goal.save-requires
save-requires c =
    let say : fields_say c.args.image.now ≡ Some c.in-Some.state = sym c.load.ensures ∙ c.in-Some.is in
    (size_said _ c.args.room.now _ say, pass_in_range _ _ _ say _ c.pass-passed.result _ c.pass-passed.ensures c.if-passed-gt0.true)

pub returns : goal.returns
returns c =
    let say : fields_say c.args.image.now ≡ Some c.in-Some.state = sym c.load.ensures ∙ c.in-Some.is in
    simp c.number-2.ensures
    (elim c.if-passed-gt0.branch [
      | then-passed-gt0 w ↦ simp (w.image-is, w.save.ensures)
          (pass_worked _ _ _ say _ c.pass-passed.result _ c.pass-passed.ensures w.if-passed-gt0.true)
      | else-passed-gt0 w ↦ simp w.image-is
          (pass_idles _ _ _ say _ c.pass-passed.result _ c.pass-passed.ensures
          (λ i. search rules) (omega (arith, w.if-passed-gt0.false)))
    ])
