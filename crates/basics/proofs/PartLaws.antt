-- Laws of a slice that is lent from a place on, as the toolchain writes its content before and after.
-- Assumes nothing.
use Prim.Native.Nat.{ℕ, ◌-◌, ◌≤◌}
use mathlib.Core.Path.{◌≡◌}
use mathlib.Core.List.{List, ◌++◌, append-nil}
use native.Mathlib.Nat.{le_refl}
use lib.ListN.{length, take, drop, length-drop, drop_of_length-le}
use lib.Seq.{take_all}

-- what is lent
abbrev pub part_from : (room : List ℕ) (from : ℕ) → List ℕ
part_from room from = take (length room - from) (drop from room)

-- the whole, once that has come back
abbrev pub lent_back : (room : List ℕ) (from : ℕ) (later : List ℕ) → List ℕ
lent_back room from later = take from room ++ (later ++ drop (length room - from) (drop from room))

module _ (room : List ℕ) (from : ℕ) where
  left : length (drop from room) ≤ length room - from
  left = rw (length-drop from room) (le_refl (length room - from))

  pub part_from_law : part_from room from ≡ drop from room
  part_from_law = take_all (length room - from) (drop from room) left

  pub lent_back_law : (later : List ℕ) → lent_back room from later ≡ take from room ++ later
  lent_back_law later = rw (drop_of_length-le (drop from room) {i = length room - from} left, append-nil)
