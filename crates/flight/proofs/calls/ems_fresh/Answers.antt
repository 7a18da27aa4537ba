-- `flight::calls::ems_fresh` meets its contract: the test is the rule's.
use mathlib.Core.Path.{ap, ◌∙◌}
use borrow.Author.Tests.{eq-eqb, ne_eqb}
use borrow.Author.Rules.{rules}
use Rattle.basics.proofs.ChoiceLaws.{is_true}
use Rattle.supervisor.specs.Fresh.{fresh_state}
use Rattle.supervisor.specs.Range.{in_range}
use Rattle.supervisor.proofs.FreshLaws.{fresh_in_range}
use Rattle.flight.specs.Calls.{fresh_image}
use Rattle.flight.proofs.calls.ems_fresh.Goals as goal

pub returns-then-image-ne-IMAGE_BYTES : goal.returns-then-image-ne-IMAGE_BYTES
unfolding fresh_image
returns-then-image-ne-IMAGE_BYTES c = simp (ne_eqb _ _ c.if-image-ne-IMAGE_BYTES.true, c.number.ensures)

pub save-requires : goal.save-requires
save-requires c = (search rules, ap in_range c.fresh.ensures ∙ is_true (in_range fresh_state) fresh_in_range)

pub returns : goal.returns
unfolding fresh_image
returns c =
    simp (eq-eqb _ _ c.if-image-ne-IMAGE_BYTES.false, c.number-2.ensures, c.save.ensures, c.fresh.ensures)
