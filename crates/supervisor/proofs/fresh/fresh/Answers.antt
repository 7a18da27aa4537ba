-- `fresh` meets its contract.
use Rattle.basics.specs.Each.{each, each_from}
use Rattle.modules.specs.Masks.{mask_of, masks_of}
use Rattle.modules.specs.Stage.{requested_by}
use Rattle.supervisor.specs.Fresh.{fresh_state}
use Rattle.supervisor.proofs.fresh.fresh.Goals as goal

pub returns : goal.returns
unfolding fresh_state masks_of mask_of requested_by each each_from
returns c = simp (c.none-2.ensures, c.none.ensures, c.request.ensures)
