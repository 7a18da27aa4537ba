-- What loading and saving promise: a state in range loads from its save, and every image that loads saves to itself.
-- Assumes nothing.
use Prim.Native.Nat.{ℕ}
use native.Mathlib.Omega.{arith}
use mathlib.Core.Path.{◌≡◌, refl, sym, ap, ◌∙◌}
use mathlib.Core.Bool.{Bool, true, false, ◌&&◌}
use mathlib.Core.List.{List}
use Rattle.std.specs.Prelude.{Some, None}
use borrow.Author.Tests.{eq-eqb}
use lib.ListN.{length}
use Rattle.basics.specs.Choice.{when◌then◌else◌}
use Rattle.supervisor.specs.Range.{in_range}
use Rattle.supervisor.specs.declared.state.State.{State}
use Rattle.supervisor.proofs.ModuleLaws.{Eight}
use Rattle.flight.specs.Saving.{image_bytes, head_bytes, saved}
use Rattle.flight.specs.Loading.{has_layout, decoded, loaded}
use Rattle.flight.proofs.FieldsLaws.{AllBytes, flag_low}
use Rattle.flight.proofs.SavingLaws.{length_saved}
use Rattle.flight.proofs.LoadingLaws.{layout, decoded_saved, saved_decoded}

saved_layout : (s : State) → in_range s ≡ true → Eight s → has_layout (saved s) ≡ true
unfolding has_layout saved head_bytes
saved_layout s e eight = simp (eq-eqb (length (saved s)) image_bytes (length_saved s e eight), flag_low s.antennas)

-- load (save s) = s
pub load_save : (s : State) → in_range s ≡ true → Eight s → loaded (saved s) ≡ Some s
unfolding loaded
load_save s e eight = simp (saved_layout s e eight, decoded_saved s e eight, e)

-- what bytes that load are
module _ (bytes : List ℕ) (s : State) (e : loaded bytes ≡ Some s) where
  by_tests :
      (t : Bool) → has_layout bytes ≡ t → (u : Bool) → in_range (decoded bytes) ≡ u → (when t && u then Some (decoded bytes) else None) ≡ Some s →
      (has_layout bytes ≡ true) × (in_range s ≡ true) × (decoded bytes ≡ s)
  by_tests true l true r z = let same : decoded bytes ≡ s = cc in (l, ap in_range (sym same) ∙ r, same)
  by_tests true l false r z = let never : ◌≡◌ {A = ℕ} 0 1 = cc in absurd (omega arith)
  by_tests false l u r z = let never : ◌≡◌ {A = ℕ} 0 1 = cc in absurd (omega arith)

  loads : (has_layout bytes ≡ true) × (in_range s ≡ true) × (decoded bytes ≡ s)
  unfolding loaded
  loads = by_tests (has_layout bytes) refl (in_range (decoded bytes)) refl e

  -- only states in range have an image
  pub loaded_in_range : in_range s ≡ true
  loaded_in_range = loads.1

  -- save (load bytes) = bytes
  pub save_load : AllBytes bytes → saved s ≡ bytes
  save_load small = ap saved (sym loads.2) ∙ saved_decoded bytes small (layout bytes loads.0)
