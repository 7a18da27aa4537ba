-- Room for a keying, a hair more: at each n, zeros need all of the 22n - 3 and no more, and are not alone in it; and 65 of
-- them are not keyed.
-- Assumes nothing.
use Prim.Native.Nat.{ℕ, ◌-◌, ◌*◌, ◌≤◌}
use native.Mathlib.Omega.{arith}
use mathlib.Core.Path.{◌≡◌, refl, ap}
use mathlib.Core.List.{List}
use lib.ListN.{length, get_or, replicate, length-replicate, get_or-replicate}
use Rattle.basics.specs.Outcome.{Reply, reply}
use Rattle.morse.specs.Answers.{done}
use Rattle.morse.specs.Signs.{first_figure, alphabet, sign_of}
use Rattle.morse.specs.Texts.{longest, fault_of}
use Rattle.morse.specs.Units.{units_for}
use Rattle.morse.specs.Keying.{key_of}
use Rattle.promises.specs.KeyingRoom.{keying, AtMost, Enough, Needs, zeros}
use Rattle.promises.proofs.KeyingRoom.{needs_all, keying_room}

-- a room of so many bytes
abbrev room_of : ℕ → List ℕ
room_of n = replicate n 0

length_room : (n : ℕ) → length (room_of n) ≡ n
length_room n = length-replicate n 0

-- what is returned, part by part
abbrev number : Reply → ℕ
number r = r.number

abbrev count : Reply → ℕ
count r = r.count

-- the byte of the comma, whose sign is as long as that of the zero, and n commas
abbrev comma : ℕ
comma = 44

abbrev pub commas : ℕ → List ℕ
commas n = replicate n comma

-- at each length of a text
module _ (n : ℕ) (some : 1 ≤ n) (most : n ≤ longest) where
  abbrev room : List ℕ
  room = room_of (units_for n)

  length_zeros : length (zeros n) ≡ n
  length_zeros = length-replicate n first_figure

  keyed : keying (zeros n) room ≡ reply done (units_for n)
  keyed = (keying_room.reached n most).given room (omega (arith, length_room (units_for n)))

  pub not_22n_4 : AtMost n (22 * n - 4) → ⊥
  not_22n_4 says = omega (arith, ap count keyed, says (zeros n) room length_zeros)

  pub not_enough_22n_4 : Enough n (22 * n - 4) → ⊥
  not_enough_22n_4 says =
      let less : List ℕ = room_of (22 * n - 4) in
      omega (
        arith,
        ap number keyed,
        keying_room.enough n (zeros n) room length_zeros (omega (arith, length_room (units_for n))),
        ap number ((keying_room.reached n most).short less (omega (arith, length_room (22 * n - 4)))),
        says (zeros n) less length_zeros (omega (arith, length_room (22 * n - 4))),
      )

  pub not_zeros_22n_2 : Needs (zeros n) (22 * n - 2) → ⊥
  not_zeros_22n_2 says =
      omega (arith, ap number keyed, ap number (says.short room (omega (arith, length_room (units_for n)))))

  commas_need : Needs (commas n) (units_for n)
  unfolding alphabet sign_of
  commas_need = needs_all comma refl refl refl n most

  pub not_zeros_alone : ((text : List ℕ) → length text ≡ n → Needs text (units_for n) → text ≡ zeros n) → ⊥
  not_zeros_alone says =
      omega (
        arith,
        get_or-replicate n 0 comma 0 some,
        get_or-replicate n 0 first_figure 0 some,
        ap (λ (text : List ℕ). get_or text 0 0) (says (commas n) (length-replicate n comma) commas_need),
      )

-- 65 zeros are answered 11
pub not_65_zeros : Needs (zeros 65) (units_for 65) → ⊥
unfolding fault_of key_of
not_65_zeros says =
    let refused : ◌≡◌ {A = ℕ} 11 0 =
    ap number (says.given (room_of (units_for 65)) (omega (arith, length_room (units_for 65)))) in
    omega arith
