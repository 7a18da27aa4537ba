-- A refusal of the beacon's text writes nothing.
-- Assumes nothing.
use Prim.Native.Nat.{ℕ, ◌≤◌}
use native.Mathlib.Omega.{arith}
use mathlib.Core.Path.{refl}
use mathlib.Core.Bool.{not}
use mathlib.Core.List.{List}
use lib.Dec.{ltb}
use lib.ListN.{length}
use Rattle.std.specs.Prelude.{Result}
use Rattle.basics.specs.Outcome.{Outcome}
use Rattle.basics.proofs.ChoiceLaws.{either}
use Rattle.supervisor.specs.Range.{in_range}
use Rattle.supervisor.specs.declared.state.State.{State}
use Rattle.beacon.specs.Text.{text_of, has_text}
use Rattle.beacon.specs.Writing.{beacon_of, written_reply}
use Rattle.supervisor.specs.declared.form.Form.{Form}
use Rattle.beacon.specs.declared.writing.WriteFault.{WriteFault}
use Rattle.promises.specs.Refusals.{Unwritten}

module _ (room : List ℕ) where
  abbrev Keeps : Outcome (Result ℕ WriteFault) → Type 0
  Keeps after = 1 ≤ (written_reply after.result).number → Unwritten (written_reply after.result) room after.room

  pub beacon_keeps : (form : Form) (s : State) → Keeps (beacon_of form s room)
  unfolding beacon_of
  beacon_keeps form s =
      either Keeps (not (in_range s)) (λ t. record { count = refl; room = refl })
      (either Keeps (not (has_text form s.message.length)) (λ t. record { count = refl; room = refl })
      (either Keeps (ltb (length room) (length (text_of form s))) (λ t. record { count = refl; room = refl }) (λ t. absurd (omega arith))))
