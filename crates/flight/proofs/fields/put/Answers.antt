-- `flight::fields::put` meets its contract: what is stored in a part is a run of stores.
use native.Mathlib.Omega.{arith}
use borrow.Author.Rules.{rules}
use Rattle.flight.proofs.SavingLaws.{part_stored}
use Rattle.flight.proofs.fields.put.Goals as goal

pub returns : goal.returns
returns g c =
    rw c.copy_from_slice.ensures.after (part_stored c.args.bytes.now c.args.part c.args.at g.row.N (search rules) (omega arith))
