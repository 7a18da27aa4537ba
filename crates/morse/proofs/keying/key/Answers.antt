-- `morse::keying::key` meets its contract: a fault is the rule's case of it, and with none a first count tells whether the
-- room is long enough.
use mathlib.Core.Path.{sym, ap, ◌∙◌}
use native.Mathlib.Omega.{arith}
use Rattle.std.specs.Prelude.{Err}
use Rattle.basics.specs.Outcome.{outcome}
use Rattle.morse.proofs.TextsLaws.{fair}
use Rattle.morse.proofs.KeyingLaws.{refused_by, key_by_law, keyed_short, keyed_stored}
use Rattle.morse.proofs.keying.key.Goals as goal

pub returns-in_err-fault_of : goal.returns-in_err-fault_of
returns-in_err-fault_of c =
    let fault = c.in_err-fault_of.field-0.0 in
    ap (λ answer. outcome answer c.args.units.now) (refused_by _ fault c.from_residual.ensures.1)
    ∙ key_by_law _ _ (Err fault) (sym c.in_err-fault_of.was ∙ c.fault_of.ensures)

pub put_text-n-requires : goal.put_text-n-requires
put_text-n-requires c = (fair _ (sym c.fault_of.ensures ∙ c.in_ok-fault_of.was)).short

pub returns-then-units-n : goal.returns-then-units-n
returns-then-units-n c = sym (keyed_short _ _ (sym c.fault_of.ensures ∙ c.in_ok-fault_of.was) (omega arith))

pub put_text-requires : goal.put_text-requires
put_text-requires c = (fair _ (sym c.fault_of.ensures ∙ c.in_ok-fault_of.was)).short

pub returns : goal.returns
returns c = keyed_stored _ _ (sym c.fault_of.ensures ∙ c.in_ok-fault_of.was) c.put_text.ensures (omega arith)
