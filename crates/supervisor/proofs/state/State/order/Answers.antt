-- `State::order` meets its contract.
use Prim.Native.Nat.{ℕ}
use mathlib.Core.Path.{ap, sym, ◌∙◌}
use Rattle.basics.proofs.EachLaws.{length_mapped}
use Rattle.modules.specs.Masks.{masks_of, requests_set}
use Rattle.modules.proofs.MasksLaws.{masks_asked_one}
use Rattle.supervisor.proofs.ModuleLaws.{Eight}
use borrow.Author.Rules.{rules}
use Rattle.supervisor.proofs.state.State.order.Goals as goal

pub with_modules-requires : goal.with_modules-requires
with_modules-requires c =
    let s = c.args.self in
    let eight : Eight s = search (rules, length_mapped) in
    c.request-masks.ensures
    ∙ ap (λ (n : ℕ). requests_set n c.args.on s.masks) c.one_bit.ensures
    ∙ masks_asked_one c.args.which c.args.on s.modules s.masks eight c.requires
    ∙ ap masks_of (sym c.request_one-modules.ensures)
