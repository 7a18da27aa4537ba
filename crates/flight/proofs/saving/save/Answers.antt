-- `flight::saving::save` meets its contract: the head, the message, the ends, the masks and the modules fill the image.
use native.Mathlib.Omega.{arith}
use mathlib.Core.Path.{◌∙◌}
use Rattle.basics.proofs.EachLaws.{length_mapped}
use Rattle.supervisor.proofs.ModuleLaws.{Eight}
use Rattle.flight.specs.Saving.{message_bytes, ends_bytes, masks_bytes}
use Rattle.flight.proofs.SavingLaws.{quad_of, modules_in_range_law, stored_state}
use borrow.Author.Rules.{rules}
use Rattle.flight.proofs.saving.save.Goals as goal

pub put_modules-requires : goal.put_modules-requires
put_modules-requires c = (
  omega
      (arith, c.requires.0, c.put.auto.bytes, c.put-2.auto.bytes, c.put-3.auto.bytes, c.put-4.auto.bytes, c.put-5.auto.bytes, c.put-6.auto.bytes, c.put-7.auto.bytes, c.put-8.auto.bytes),
  modules_in_range_law c.args.state c.requires.1,
)

pub returns : goal.returns
unfolding message_bytes ends_bytes masks_bytes
returns c =
    let s = c.args.state in
    let eight : Eight s = search (rules, length_mapped) in
    let adcs = c.to_le_bytes.ensures ∙ quad_of s.ends.adcs (search rules) in
    let payload = c.to_le_bytes-2.ensures ∙ quad_of s.ends.payload (search rules) in
    let sband1 = c.to_le_bytes-3.ensures ∙ quad_of s.ends.sband1 (search rules) in
    let sband2 = c.to_le_bytes-4.ensures ∙ quad_of s.ends.sband2 (search rules) in
    rw (c.put_modules.ensures, c.put-8.ensures, c.put-7.ensures, c.put-6.ensures, c.put-5.ensures, c.put-4.ensures, c.put-3.ensures, c.put-2.ensures, c.put.ensures)
    (rw (c.head.ensures, adcs, payload, sband1, sband2) (stored_state s _ c.requires.1 eight c.requires.0))
