-- A refusal of keying or of reading back writes nothing.
-- Assumes nothing.
use Prim.Native.Nat.{ℕ, ◌≤◌}
use native.Mathlib.Omega.{arith}
use native.Mathlib.Decide.{ℕ_discrete}
use mathlib.Core.Path.{◌≡◌, refl}
use mathlib.Core.List.{List, List-discrete}
use lib.Dec.{ltb}
use lib.ListN.{length}
use Rattle.basics.specs.Outcome.{Outcome}
use Rattle.basics.proofs.ChoiceLaws.{either}
use Rattle.morse.specs.Texts.{fault_of}
use Rattle.morse.specs.Units.{units_of}
use Rattle.morse.specs.Keying.{key_of, key_by, key_units, key_reply}
use Rattle.hearing.specs.Reading.{Keys, Read, read_text, read_reply}
use Rattle.morse.specs.declared.texts.Fault.{Fault}
use Rattle.std.specs.Prelude.{Result, Ok, Err}
use Rattle.morse.specs.declared.keying.KeyFault.{KeyFault}
use Rattle.hearing.specs.declared.reading.ReadFault.{ReadFault}
use Rattle.promises.specs.Refusals.{Unwritten}

-- keying
module _ (room : List ℕ) where
  abbrev Keeps : Outcome (Result ℕ KeyFault) → Type 0
  Keeps after = 1 ≤ (key_reply after.result).number → Unwritten (key_reply after.result) room after.room

  by_found : (found : Result Unit Fault) (units : List ℕ) → Keeps (key_by found units room)
  unfolding key_units
  by_found (Err fault) units h = record { count = refl; room = refl }
  by_found (Ok _) units h =
      either Keeps (ltb (length room) (length units)) (λ t. record { count = refl; room = refl }) (λ t. absurd (omega arith)) h

  pub keying_keeps : (text : List ℕ) → Keeps (key_of text room)
  unfolding key_of
  keying_keeps text h = by_found (fault_of text) (units_of text) h

-- reading back
no_count : (given : Result ℕ ReadFault) → 1 ≤ (read_reply given).number → (read_reply given).count ≡ 0
no_count (Ok n) h = absurd (omega arith)
no_count (Err refusal) h = refl

module _ (units room : List ℕ) where
  abbrev Leaves : Outcome (Result ℕ ReadFault) → Type 0
  Leaves after = 1 ≤ (read_reply after.result).number → after.room ≡ room

  text_leaves : (text : List ℕ) → Leaves (read_text text room)
  unfolding read_text
  text_leaves text h = either Leaves (ltb (length room) (length text)) (λ t. refl) (λ t. absurd (omega arith)) h

  -- whether or not the units are the keying of a text, the room is as before; which of the two is not decided here
  same_room :
      (after : Outcome (Result ℕ ReadFault)) → Read units room after → 1 ≤ (read_reply after.result).number → (after.room ≡ room → ⊥) → ⊥
  same_room after r h differs =
      let never : (text : List ℕ) → Keys text units → ⊥ = λ text k. differs (rw (r.told text k) (text_leaves text (rw (r.told text k) at h))) in
      differs (rw (r.refused never) refl)

  pub reading_keeps :
      (after : Outcome (Result ℕ ReadFault)) → Read units room after → 1 ≤ (read_reply after.result).number →
      Unwritten (read_reply after.result) room after.room
  reading_keeps after r h =
      record {
        count = no_count after.result h;
        room = elim (List-discrete ℕ_discrete after.room room) [ yes e ↦ e | no differs ↦ absurd (same_room after r h differs) ];
      }
