-- `modules_on` meets its contract: the ones of the on mask are the modules that are on.
use mathlib.Core.Path.{◌≡◌, ap, sym, ◌∙◌}
use mathlib.Core.Bool.{true}
use lib.Count.{ones}
use Rattle.basics.proofs.ChoiceLaws.{holds}
use Rattle.modules.specs.Masks.{count_on}
use Rattle.modules.specs.declared.masks.Masks.{Masks}
use Rattle.modules.proofs.MasksLaws.{ones_on}
use Rattle.supervisor.specs.Range.{in_range}
use Rattle.supervisor.proofs.RangeLaws.{parts}
use Rattle.counting.specs.Counting.{modules_on_of}
use Rattle.counting.proofs.modules_on.Goals as goal

pub returns : goal.returns
unfolding modules_on_of
returns c =
    let s = c.args.state in
    let valid : in_range s ≡ true = sym c.in_range.ensures ∙ c.if-not-in_range.false in
    let counted : ones s.masks.on ≡ count_on s.modules = ap (λ (m : Masks). ones m.on) (parts s (holds (in_range s) valid)).masks ∙ ones_on s.modules in
    simp (valid, counted)
