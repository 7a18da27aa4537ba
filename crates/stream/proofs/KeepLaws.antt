-- Laws of bytes kept: what copy_within leaves, and how many they are.
-- Assumes nothing.
use Rattle.std.proofs.Common.{◌≡◌, ℕ, ◌-◌, ◌≤◌, List, length, take, drop, ap, refl, zero-add, arith, length-take-le, length-drop}
use Rattle.std.specs.List.{copy_within}
use Rattle.basics.specs.Outcome.{Outcome, outcome, written}
use Rattle.stream.specs.Piece.{keep_of}

pub moved_law :
    (bytes : List ℕ) (from to : ℕ) → from ≤ to → to ≤ length bytes →
    copy_within bytes from to 0 ≡ written (take (to - from) (drop from bytes)) bytes
moved_law bytes from to h l =
    let n : length (take (to - from) (drop from bytes)) ≡ to - from = length-take-le (to - from) (drop from bytes) (rw length-drop (omega arith)) in
    rw (n, zero-add) refl

pub keep_count : (bytes : List ℕ) (from to : ℕ) {kept : ℕ} {later : List ℕ} → outcome kept later ≡ keep_of bytes from to → kept ≡ to - from
unfolding keep_of
keep_count bytes from to e = ap (λ (o : Outcome ℕ). o.result) e
