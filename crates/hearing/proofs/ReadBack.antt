-- What keying and reading promise together: reading what was keyed gives the text back, and no two texts have one
-- keying. Assumes nothing.
use mathlib.Core.Path.{◌≡◌, refl, sym, ap}
use mathlib.Core.Bool.{Bool, true, false}
use mathlib.Core.List.{List}
use Prim.Native.Nat.{ℕ}
use lib.Dec.{ltb}
use lib.ListN.{length, take, drop}
use lib.Seq.{take-append_seam}
use Rattle.basics.specs.Choice.{when◌then◌else◌}
use Rattle.basics.specs.Outcome.{Outcome, outcome, written}
use Rattle.std.specs.Prelude.{Result, Ok, Err}
use Rattle.morse.specs.declared.keying.KeyFault.{KeyFault}
use Rattle.morse.specs.declared.keying.KeyFault.TheVariants.{NoRoom}
use Rattle.morse.specs.declared.texts.Fault.{Fault}
use Rattle.morse.specs.Texts.{fault_of}
use Rattle.morse.specs.Units.{units_of}
use Rattle.morse.specs.Keying.{key_units, key_by, key_of, key_reply}
use Rattle.hearing.specs.declared.reading.ReadFault.{ReadFault}
use Rattle.hearing.specs.Reading.{Keys, read_text, Read}
use Rattle.hearing.proofs.ReadingLaws.{one_text}

-- where keying answers a count, the text passed 11 to 13, and so many of the room's units are its keying
pub key_done : (t room later : List ℕ) (n : ℕ) → key_of t room ≡ outcome (Ok n) later → Keys t (take n later)
unfolding key_of key_units
key_done t room later n e = by_found (fault_of t) refl e
  where
    refused : {refusal : KeyFault} → outcome (Err refusal) room ≡ outcome (Ok n) later → ⊥
    refused z = let e = ap (λ o. o.result) z in cc

    written_count : (b : Bool)
        → (when b then outcome (Err NoRoom) room else outcome (Ok (length (units_of t))) (written (units_of t) room))
        ≡ outcome (Ok n) later
        → units_of t ≡ take n later
    written_count true z = absurd (refused z)
    written_count false z =
        let c : length (units_of t) ≡ n = ap (λ o. (key_reply o.result).count) z in
        let w : written (units_of t) room ≡ later = ap (λ o. o.room) z in
        rw (← c, ← w) (sym (take-append_seam (units_of t) (drop (length (units_of t)) room)))

    by_found : (found : Result Unit Fault) → fault_of t ≡ found → key_by found (units_of t) room ≡ outcome (Ok n) later
        → Keys t (take n later)
    by_found (Ok _) p z = record { passes = p; same = written_count (ltb (length room) (length (units_of t))) z }
    by_found (Err fault) p z = absurd (refused z)

-- reading back: where keying a text answered a count, whatever reading does with so many units of that room gives the
-- text
pub read_back : (text units later room : List ℕ) (n : ℕ) (after : Outcome (Result ℕ ReadFault))
    → key_of text units ≡ outcome (Ok n) later → Read (take n later) room after → after ≡ read_text text room
read_back text units later room n after k r = r.told text (key_done text units later n k)

-- one keying, one text
pub same_keying : (s t : List ℕ) → fault_of s ≡ Ok tt → fault_of t ≡ Ok tt → units_of s ≡ units_of t → s ≡ t
same_keying s t p q e =
    one_text s t (units_of t) (record { passes = p; same = e }) (record { passes = q; same = refl })
