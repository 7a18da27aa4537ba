-- Laws of the frames of a pass: the first is that at the front, and the others are those of what follows it.
-- Assumes nothing.
use Prim.Native.Nat.{ℕ, zero, suc, ◌<◌, ◌≤◌}
use mathlib.Core.Path.{◌≡◌, refl, ap}
use mathlib.Core.List.{List, [], ◌∷◌}
use native.Mathlib.Omega.{arith}
use lib.ListN.{length, drop, length-drop}
use Rattle.frames.specs.Cut.{front_of}
use Rattle.frames.proofs.CutLaws.{front_some}
use Rattle.pass.specs.Pass.{frames_up_to, frames_in}

-- what follows the frame at the front
abbrev pub rest_of : List ℕ → List ℕ
rest_of bytes = drop (length (front_of bytes)) bytes

-- is shorter
rest_less : (kind : ℕ) (fields : List ℕ) (n : ℕ) → length fields ≤ n → length (rest_of (kind ∷ fields)) ≤ n
rest_less kind fields n h = rw (length-drop (length (front_of (kind ∷ fields))) (kind ∷ fields)) (omega (arith, front_some (kind ∷ fields) (omega arith)))

-- as many frames as bytes are enough
frames_enough : (m n : ℕ) (bytes : List ℕ) → length bytes ≤ m → length bytes ≤ n → frames_up_to m bytes ≡ frames_up_to n bytes
unfolding frames_up_to
frames_enough zero zero bytes p q = refl
frames_enough zero (suc n) [] p q = refl
frames_enough zero (suc n) (kind ∷ fields) p q = absurd (omega arith)
frames_enough (suc m) zero [] p q = refl
frames_enough (suc m) zero (kind ∷ fields) p q = absurd (omega arith)
frames_enough (suc m) (suc n) [] p q = refl
frames_enough (suc m) (suc n) (kind ∷ fields) p q =
    ap (λ frames. front_of (kind ∷ fields) ∷ frames)
    (frames_enough m n (rest_of (kind ∷ fields)) (rest_less kind fields m (omega arith)) (rest_less kind fields n (omega arith)))

pub frames_none : (bytes : List ℕ) → length bytes ≡ 0 → frames_in bytes ≡ []
unfolding frames_in frames_up_to
frames_none [] h = refl
frames_none (kind ∷ fields) h = absurd (omega arith)

pub frames_first : (bytes : List ℕ) → 0 < length bytes → frames_in bytes ≡ front_of bytes ∷ frames_in (rest_of bytes)
unfolding frames_in frames_up_to
frames_first [] h = absurd (omega arith)
frames_first (kind ∷ fields) h =
    ap (λ frames. front_of (kind ∷ fields) ∷ frames)
    (frames_enough (length fields) (length (rest_of (kind ∷ fields))) (rest_of (kind ∷ fields)) (rest_less kind fields (length fields) (omega arith)) (omega arith))
