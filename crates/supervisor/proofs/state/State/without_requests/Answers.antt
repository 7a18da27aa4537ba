-- `State::without_requests` meets its contract: the modules of the mask that are not requested need no setting off.
use mathlib.Core.Path.{ap, sym, ◌∙◌}
use mathlib.Core.Bool.{false}
use Prim.Native.Nat.{◌<◌}
use native.Mathlib.Omega.{arith}
use lib.Bits.{bit_and, and_le_r}
use borrow.Author.Rules.{rules}
use Rattle.basics.proofs.EachLaws.{length_mapped}
use Rattle.modules.specs.Masks.{masks_of}
use Rattle.modules.specs.Stage.{requested_by}
use Rattle.modules.specs.declared.masks.Masks.{Masks}
use Rattle.modules.proofs.MasksLaws.{masks_asked, requested_off}
use Rattle.supervisor.specs.State.{with_modules}
use Rattle.supervisor.proofs.ModuleLaws.{Eight}
use Rattle.supervisor.proofs.state.State.without_requests.Goals as goal

pub with_modules-requires : goal.with_modules-requires
with_modules-requires c =
    let s = c.args.self in
    let eight : Eight s = search (rules, length_mapped) in
    let low : c.args.mask < 256 = search rules in
    let small : bit_and s.masks.requested c.args.mask < 256 = omega (arith, and_le_r s.masks.requested c.args.mask) in
    c.request.ensures
    ∙ masks_asked _ false s.modules s.masks eight small c.requires
    ∙ ap masks_of (sym c.request-modules.ensures)

pub returns : goal.returns
returns c =
    let s = c.args.self in
    let mask = c.args.mask in
    c.with_modules.ensures
    ∙ ap (λ ms. with_modules ms s)
    (c.request-modules.ensures ∙ ap (λ (masks : Masks). requested_by (bit_and masks.requested mask) false s.modules) c.requires ∙ requested_off mask s.modules)
