-- Room for a keying, proved: a text's units are no more than its characters allow, and n zeros have just so many.
-- Assumes nothing.
use Prim.Native.Nat.{ℕ, ◌+◌, ◌≤◌}
use native.Mathlib.Omega.{arith}
use mathlib.Core.Path.{◌≡◌, refl, sym, ap, ◌∙◌}
use mathlib.Core.Bool.{true, false}
use mathlib.Core.List.{List}
use lib.ListN.{length, replicate}
use Rattle.basics.specs.Outcome.{Outcome, Reply, reply}
use Rattle.morse.specs.Answers.{done}
use Rattle.morse.specs.Signs.{first_figure, alphabet, sign_of}
use Rattle.morse.specs.Texts.{longest, is_space, known, fault_of}
use Rattle.morse.specs.Units.{between_signs, sign_units, units_of, per_character, units_for}
use Rattle.morse.specs.Keying.{key_reply}
use Rattle.std.specs.Prelude.{Result, Ok}
use Rattle.morse.specs.declared.keying.KeyFault.{KeyFault}
use Rattle.morse.proofs.TextsLaws.{fault_not_room, fairly, repeated}
use Rattle.morse.proofs.UnitsLaws.{units_most, repeated_units}
use Rattle.morse.proofs.KeyingLaws.{keyed_within, keyed_short, key_number, key_count}
use Rattle.promises.specs.KeyingRoom.{keying, AtMost, Enough, Needs, OfEmsKey, KeyingRoom}

most : (n : ℕ) → AtMost n (units_for n)
most n text room e = omega (arith, key_count text room, units_most text)

enough : (n : ℕ) → Enough n (units_for n)
enough n text room e h = key_number text room (omega (arith, units_most text))

-- a text without a fault needs as many as it has
module _ (text : List ℕ) (fine : fault_of text ≡ Ok tt) (units : ℕ) (e : length (units_of text) ≡ units) where
  needs : Needs text units
  needs = record {
    given = λ room h.
        ap (λ (o : Outcome (Result ℕ KeyFault)). key_reply o.result) (keyed_within text room fine (omega (arith, e)))
        ∙ ap (reply done) e;
    short = λ room h.
        ap (λ (o : Outcome (Result ℕ KeyFault)). key_reply o.result) (keyed_short text room fine (omega (arith, e)));
  }

-- a byte of the alphabet that is no space, with one of the longest signs, over and over
pub needs_all :
    (c : ℕ) → known c ≡ true → is_space c ≡ false → length (sign_units 0 (sign_of c)) + between_signs ≡ per_character →
    (n : ℕ) → n ≤ longest → Needs (replicate n c) (units_for n)
needs_all c k s long n h =
    needs (replicate n c) (fairly (replicate n c) (repeated c k s n h)) (units_for n) (repeated_units c s long n)

-- what ems_key returns is what keying does
in_c : OfEmsKey (λ text room returned. returned ≡ keying text room)
in_c κs a x learnt = ap (λ (o : Outcome Reply). o.result) learnt

pub keying_room : KeyingRoom
unfolding alphabet sign_of
keying_room = record {
  most = most;
  enough = enough;
  reached = needs_all first_figure refl refl refl;
  most_in_c = λ κs a x learnt.
      let text = a.0.now in
      let count = ap (λ (r : Reply). r.count) (in_c κs a x learnt) in
      omega (arith, count, most (length text) text a.1.0.now refl);
  enough_in_c = λ κs a x learnt h full.
      let text = a.0.now in
      let number = ap (λ (r : Reply). r.number) (in_c κs a x learnt) in
      fault_not_room (fault_of text) (sym (number ∙ enough (length text) text a.1.0.now refl h) ∙ full);
}
