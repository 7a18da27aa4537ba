-- Laws of keying: what each fault, and each room, makes of it.
-- Assumes nothing.
use mathlib.Core.Path.{◌≡◌, refl, sym, ap, ◌∙◌}
use mathlib.Core.List.{List}
use Prim.Native.Nat.{ℕ, ◌<◌, ◌≤◌, zero-le}
use native.Mathlib.Nat.{le_refl}
use native.Mathlib.Omega.{arith}
use lib.Dec.{ltb}
use lib.ListN.{length}
use borrow.Author.Tests.{lt-ltb, le-ltb}
use Rattle.basics.specs.Outcome.{Outcome, outcome, written}
use Rattle.basics.proofs.ChoiceLaws.{either}
use Rattle.basics.proofs.Stores.{sets_front}
use Rattle.std.specs.Prelude.{Result, Ok, Err, IsErrAnd}
use Rattle.morse.specs.declared.keying.KeyFault.{KeyFault}
use Rattle.morse.specs.declared.keying.KeyFault.TheVariants.{Text, NoRoom}
use Rattle.morse.specs.declared.texts.Fault.{Fault}
use Rattle.morse.specs.Texts.{fault_of, found_number}
use Rattle.morse.specs.Units.{units_of, Stored}
use Rattle.morse.specs.Keying.{key_reply, key_units, key_by, key_of}

-- a fault of the text is passed on
pub refused_by : (answer : Result ℕ KeyFault) (fault : Fault) → IsErrAnd answer (λ refusal. refusal ≡ Text fault)
    → answer ≡ Err (Text fault)
refused_by (Ok n) fault h = absurd h
refused_by (Err refusal) fault h = ap Err h

-- what is found of the text decides
pub key_by_law : (t room : List ℕ) (found : Result Unit Fault) → found ≡ fault_of t
    → key_by found (units_of t) room ≡ key_of t room
unfolding key_of
key_by_law t room found e = ap (λ x. key_by x (units_of t) room) e

module _ (units room : List ℕ) where
  pub key_short : length room < length units → outcome (Err NoRoom) room ≡ key_units units room
  unfolding key_units
  key_short h = simp (lt-ltb (length room) (length units) h)

  key_within : length units ≤ length room → outcome (Ok (length units)) (written units room) ≡ key_units units room
  unfolding key_units
  key_within h = simp (le-ltb (length room) (length units) h)

  pub key_stored : {n : ℕ} {later : List ℕ} → Stored 0 units room n later → length units ≤ length room
      → outcome (Ok n) later ≡ key_units units room
  key_stored {n} s h =
      let e : n ≡ length units = omega arith in
      rw (e, s.1, sets_front units room h) (key_within h)

-- a text without a fault is keyed where there is room for its units, and is answered 14 where there is less
module _ (t room : List ℕ) (fine : fault_of t ≡ Ok tt) where
  by_units : key_units (units_of t) room ≡ key_of t room
  by_units = key_by_law t room (Ok tt) (sym fine)

  pub keyed_stored : {n : ℕ} {later : List ℕ} → Stored 0 (units_of t) room n later → length (units_of t) ≤ length room
      → outcome (Ok n) later ≡ key_of t room
  keyed_stored s h = key_stored (units_of t) room s h ∙ by_units

  pub keyed_within : length (units_of t) ≤ length room
      → key_of t room ≡ outcome (Ok (length (units_of t))) (written (units_of t) room)
  keyed_within h = sym (key_within (units_of t) room h ∙ by_units)

  pub keyed_short : length room < length (units_of t) → key_of t room ≡ outcome (Err NoRoom) room
  keyed_short h = sym (key_short (units_of t) room h ∙ by_units)

-- any text: with room for its units the answer is its own, and no more than its units are counted
module _ (t room : List ℕ) where
  pub key_number : length (units_of t) ≤ length room → (key_reply (key_of t room).result).number ≡ found_number (fault_of t)
  unfolding key_of key_units
  key_number h = by_found (fault_of t)
    where
      by_found : (found : Result Unit Fault) → (key_reply (key_by found (units_of t) room).result).number ≡ found_number found
      by_found (Ok _) = rw (le-ltb (length room) (length (units_of t)) h)
      by_found (Err fault) = refl

  pub key_count : (key_reply (key_of t room).result).count ≤ length (units_of t)
  unfolding key_of key_units
  key_count = by_found (fault_of t)
    where
      by_found : (found : Result Unit Fault) → (key_reply (key_by found (units_of t) room).result).count ≤ length (units_of t)
      by_found (Ok _) =
          either (λ (o : Outcome (Result ℕ KeyFault)). (key_reply o.result).count ≤ length (units_of t))
          (ltb (length room) (length (units_of t))) zero-le (le_refl (length (units_of t)))
      by_found (Err fault) = zero-le
