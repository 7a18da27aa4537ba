-- A rule of the alphabet at every byte, those without a sign too.
-- Assumes nothing.
use mathlib.Core.Bool.{Bool, true, ◌&&◌}
use mathlib.Core.List.{List, [], ◌∷◌}
use Prim.Native.Nat.{ℕ}
use lib.Dec.{T, eqb}
use borrow.Author.Tests.{eqb-true}
use Rattle.basics.proofs.ChoiceLaws.{and_left, and_right, decided}
use Rattle.morse.specs.Signs.{Mark, Row, sign_among}

module _ (f : ℕ → List Mark → Bool) where
  -- the test f passes at each row's byte and sign
  abbrev pub every_row : List Row → Bool
  every_row [] = true
  every_row (r ∷ rs) = f r.byte r.sign && every_row rs

  -- the test passes at each row, and of no marks at each byte: it passes at each byte
  pub everywhere : (rows : List Row) → T (every_row rows) → ((c : ℕ) → T (f c [])) → (c : ℕ) → T (f c (sign_among c rows))
  everywhere [] t p c = p c
  everywhere (r ∷ rs) t p c =
      decided (λ (ms : List Mark). T (f c ms)) (eqb c r.byte)
      (λ e. rw (eqb-true c r.byte e) (and_left (f r.byte r.sign) (every_row rs) t))
      (λ e. everywhere rs (and_right (f r.byte r.sign) (every_row rs) t) p c)
