-- The fresh start: it is in range; each of its modules is off, and the core four are requested.
-- Assumes nothing.
use Prim.Native.Nat.{ℕ, ◌<◌}
use mathlib.Core.Path.{◌≡◌, refl}
use mathlib.Core.Bool.{true, false, not}
use lib.Dec.{T}
use Rattle.basics.specs.Choice.{when◌then◌else◌}
use Rattle.basics.specs.Each.{each, each_from}
use Rattle.basics.proofs.ChoiceLaws.{agreed}
use Rattle.basics.proofs.TablesLaws.{upto}
use Rattle.modules.specs.Groups.{module_count, is_mission}
use Rattle.modules.specs.Power.{is_on}
use Rattle.modules.specs.Ends.{ends_in_range}
use Rattle.modules.specs.Stage.{requested_by, modules_in_range}
use Rattle.modules.specs.Masks.{mask_of, masks_of, are_masks_of}
use Rattle.morse.specs.Texts.{fault_of}
use Rattle.frames.specs.Greeting.{is_greeting}
use Rattle.supervisor.specs.State.{module_at}
use Rattle.supervisor.specs.Fresh.{fresh_state}
use Rattle.supervisor.specs.Range.{in_range}
use Rattle.supervisor.proofs.ModuleLaws.{Eight}

pub fresh_in_range : T (in_range fresh_state)
unfolding in_range fresh_state requested_by each each_from modules_in_range ends_in_range is_greeting fault_of masks_of mask_of are_masks_of
fresh_in_range = tt

pub fresh_eight : Eight fresh_state
unfolding fresh_state requested_by each each_from
fresh_eight = refl

module _ (i : ℕ) (low : i < module_count) where
  pub fresh_requested : (module_at i fresh_state).requested ≡ not (is_mission i)
  unfolding fresh_state requested_by each each_from
  fresh_requested =
      agreed (module_at i fresh_state).requested (not (is_mission i))
      (upto (λ k. when (module_at k fresh_state).requested then not (is_mission k) else not (not (is_mission k))) module_count tt i low)

  pub fresh_off : is_on (module_at i fresh_state).power ≡ false
  unfolding fresh_state requested_by each each_from
  fresh_off =
      agreed (is_on (module_at i fresh_state).power) false
      (upto (λ k. when is_on (module_at k fresh_state).power then false else true) module_count tt i low)
