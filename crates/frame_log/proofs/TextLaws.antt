-- Laws of text: a number's digits, the last one first, and how many they are.
-- Assumes nothing.
use Rattle.std.proofs.Common.{◌≡◌, ℕ, zero, suc, ◌+◌, ◌-◌, ◌/◌, ◌%◌, ◌<◌, ◌≤◌, ltb, List, [], ◌∷◌, ◌++◌, length, drop, set, sym, refl, add-one, arith, append_assoc, not-suc-le-zero, length-append, lt-ltb, le-ltb}
use Rattle.std.proofs.lemmas.List.{drop-set}
use Rattle.basics.proofs.ChoiceLaws.{either}
use Rattle.frame_log.specs.Text.{most_digits, decimal_up_to, decimal}

length_up_to : (most n : ℕ) → length (decimal_up_to most n) ≤ most
unfolding decimal_up_to
length_up_to zero n = omega arith
length_up_to (suc most) n =
    either (λ (text : List ℕ). length text ≤ suc most) (ltb n 10) (omega arith)
    (rw length-append (omega (arith, length_up_to most (n / 10))))

pub length_decimal : (n : ℕ) → length (decimal n) ≤ most_digits
unfolding decimal
length_decimal n = length_up_to most_digits n

-- a digit goes to the front of those that are written already, which stand from its place on: the first of all, or one more
module _ (n digit : ℕ) (digits : List ℕ) (e : digit ≡ 48 + n % 10) where
  pub first_digit :
      (place : ℕ) → 0 < place → place ≤ length digits → n < 10 →
      drop (place - 1) (set digits (place - 1) digit) ≡ decimal_up_to place n ++ drop place digits
  unfolding decimal_up_to
  first_digit zero some room h = absurd (not-suc-le-zero some)
  first_digit (suc i) some room h =
      let left : suc i - 1 ≡ i = omega arith in
      let own : digit ≡ 48 + n = omega (arith, e) in
      rw (left, drop-set digits i digit room, add-one, own, lt-ltb n 10 h) refl

  pub next_digit :
      (place : ℕ) → 0 < place → place ≤ length digits → 10 ≤ n →
      decimal_up_to (place - 1) (n / 10) ++ drop (place - 1) (set digits (place - 1) digit) ≡ decimal_up_to place n ++ drop place digits
  unfolding decimal_up_to
  next_digit zero some room h = absurd (not-suc-le-zero some)
  next_digit (suc i) some room h =
      let left : suc i - 1 ≡ i = omega arith in
      rw (left, drop-set digits i digit room, add-one, e, le-ltb n 10 h)
      (sym (append_assoc (decimal_up_to i (n / 10)) ((48 + n % 10) ∷ []) (drop (suc i) digits)))
