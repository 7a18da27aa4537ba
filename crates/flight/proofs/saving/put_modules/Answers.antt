-- `flight::saving::put_modules` meets its contract: the modules left, put into the image as it is, make what all of them make of it at entry.
use Prim.Native.Nat.{◌+◌, ◌*◌}
use native.Mathlib.Omega.{arith}
use mathlib.Core.Path.{◌≡◌, ap, ◌∙◌}
use mathlib.Core.List.{[]}
use lib.ListN.{length, drop, drop_of_length-le}
use lib.Seq.{length-sets}
use Rattle.basics.proofs.ChoiceLaws.{holds, is_true}
use Rattle.basics.proofs.EachLaws.{length_mapped}
use Rattle.modules.specs.Groups.{module_count}
use Rattle.flight.specs.Fields.{pair_bytes}
use Rattle.flight.specs.Saving.{modules_place, modules_bytes}
use Rattle.flight.proofs.SavingLaws.{pair_of, stored_turn, module_in_range}
use borrow.Author.Rules.{rules}
use Rattle.flight.proofs.saving.put_modules.Goals as goal

pub module_code-requires : goal.module_code-requires
module_code-requires c =
    let modules = c.args.modules in
    let eight : length modules ≡ module_count = search (rules, length_mapped) in
    is_true _ (module_in_range modules c.loop-i.i _ (omega arith) (holds _ c.requires.1))

pub loop-i-preserved : goal.loop-i-preserved
loop-i-preserved c =
    let l = c.loop-i in
    let modules = c.args.modules in
    let eight : length modules ≡ module_count = search (rules, length_mapped) in
    record {
      size = ap length c.put.ensures ∙ length-sets l.image (modules_place + 2 * l.i) c.to_le_bytes.result ∙ l.invariant.size;
      rest =
          rw c.put.ensures
          (stored_turn modules l.i (modules_place + 2 * l.i) (modules_place + 2 * (l.i + 1)) l.image _ _ (omega arith)
          (c.to_le_bytes.ensures ∙ pair_of _ (search rules) ∙ ap pair_bytes c.module_code.ensures) (omega arith)
          ∙ l.invariant.rest);
    }

pub returns : goal.returns
unfolding modules_bytes
returns c =
    let l = c.loop-i in
    let modules = c.args.modules in
    let eight : length modules ≡ module_count = search (rules, length_mapped) in
    let none : drop l.i modules ≡ [] = drop_of_length-le modules {i = l.i} (omega arith) in
    rw none at l.invariant.rest
