-- Laws of the units: one store, one mark and one byte off what is left; how many units a text has at most, and that
-- some have so many.
-- Assumes nothing.
use mathlib.Core.Path.{◌≡◌, refl, ap, ◌∙◌}
use mathlib.Core.Bool.{false}
use mathlib.Core.List.{List, [], ◌∷◌, ◌++◌}
use Prim.Native.Nat.{ℕ, zero, suc, ◌+◌, ◌-◌, ◌*◌, ◌/◌, ◌%◌, ◌<◌, ◌≤◌, zero-le}
use native.Mathlib.Nat.{not-suc-le-zero}
use native.Mathlib.Numerals.{add-one, sub-one}
use native.Mathlib.Omega.{arith}
use lib.ListN.{length, get_or, set, replicate, drop, length-append, length-replicate}
use lib.Seq.{sets, drop-cons}
use lib.Dec.{T, leb, leb→le}
use Rattle.basics.proofs.ChoiceLaws.{either}
use Rattle.basics.proofs.Stores.{sets_append}
use Rattle.morse.specs.Signs.{Mark, alphabet, sign_of}
use Rattle.morse.specs.SignTable.{mark_of, unpack}
use Rattle.morse.specs.Texts.{is_space}
use Rattle.morse.specs.Units.{span, between_signs, sign_units, gap_after, units_after, units_of, per_character, units_for}
use Rattle.morse.proofs.Everywhere.{everywhere}

-- one store off a run that ends at a place
pub run_step : (end v i : ℕ) (room : List ℕ) → i < end
    → sets room i (replicate (end - i) v) ≡ sets (set room i v) (i + 1) (replicate (end - (i + 1)) v)
run_step end v i room h = let e : end - i ≡ suc (end - (i + 1)) = omega arith in rw (e, add-one)

-- a mark's span, by its bit
abbrev bit_span : ℕ → ℕ
bit_span bits = 1 + 2 * (bits % 2)

span_bit : (b : ℕ) → b < 2 → span (mark_of b) ≡ 1 + 2 * b
span_bit zero h = refl
span_bit (suc zero) h = refl
span_bit (suc (suc b)) h = absurd (omega arith)

-- one mark off a sign
module _ (n bits gap : ℕ) (h : 0 < n) where
  mark_step : sign_units gap (unpack n bits)
      ≡ replicate gap 0 ++ (replicate (bit_span bits) 1 ++ sign_units 1 (unpack (n - 1) (bits / 2)))
  mark_step = by_count n h
    where
      by_count : (m : ℕ) → 0 < m → sign_units gap (unpack m bits)
          ≡ replicate gap 0 ++ (replicate (bit_span bits) 1 ++ sign_units 1 (unpack (m - 1) (bits / 2)))
      by_count zero p = absurd (not-suc-le-zero p)
      by_count (suc m) p =
          let e : span (mark_of (bits % 2)) ≡ bit_span bits = span_bit (bits % 2) (omega arith) in
          rw (e, sub-one)

  pub length_sign : length (sign_units gap (unpack n bits))
      ≡ gap + (bit_span bits + length (sign_units 1 (unpack (n - 1) (bits / 2))))
  length_sign = rw mark_step (simp (length-append, length-replicate))

  pub sets_sign : (room : List ℕ) (i : ℕ) → sets room i (sign_units gap (unpack n bits))
      ≡ sets
      (sets (sets room i (replicate gap 0)) (i + gap) (replicate (bit_span bits) 1))
      (i + gap + bit_span bits)
      (sign_units 1 (unpack (n - 1) (bits / 2)))
  sets_sign room i = rw mark_step (simp (sets_append, length-replicate))

-- the units of byte i of a text after a gap, and those of the rest of the text
abbrev byte_units : (t : List ℕ) (i gap : ℕ) → List ℕ
byte_units t i gap = sign_units gap (sign_of (get_or t i 0))

abbrev rest_units : (t : List ℕ) (i : ℕ) → List ℕ
rest_units t i = units_after (gap_after (get_or t i 0)) (drop (i + 1) t)

-- one byte off the rest of a text
module _ (t : List ℕ) (i gap : ℕ) (h : i < length t) where
  byte_step : units_after gap (drop i t) ≡ byte_units t i gap ++ rest_units t i
  byte_step = rw (add-one, drop-cons t i 0)

  pub length_text : length (units_after gap (drop i t)) ≡ length (byte_units t i gap) + length (rest_units t i)
  length_text = ap length byte_step ∙ simp length-append

  pub sets_text : (room : List ℕ) (k : ℕ) → sets room k (units_after gap (drop i t))
      ≡ sets (sets room k (byte_units t i gap)) (k + length (byte_units t i gap)) (rest_units t i)
  sets_text room k = ap (sets room k) byte_step ∙ simp sets_append

-- the law of the sign table: a byte's units and the gap after them, by a test over the alphabet
byte_most : (c : ℕ) → length (sign_units 0 (sign_of c)) + gap_after c ≤ per_character
unfolding alphabet sign_of
byte_most c =
    leb→le _ _ (everywhere (λ k ms. leb (length (sign_units 0 ms) + gap_after k) per_character) alphabet tt past c)
  where
    past : (k : ℕ) → T (leb (0 + gap_after k) per_character)
    past k = either (λ (g : ℕ). T (leb (0 + g) per_character)) (is_space k) tt tt

gap_least : (c : ℕ) → between_signs ≤ gap_after c
gap_least c = either (λ (g : ℕ). between_signs ≤ g) (is_space c) (omega arith) (omega arith)

sign_most : (gap : ℕ) (ms : List Mark) → length (sign_units gap ms) ≤ gap + length (sign_units 0 ms)
sign_most gap [] = zero-le
sign_most gap (m ∷ ms) = simp (length-append, length-replicate) (omega arith)

-- nothing follows the last sign: the gap that is due after it is not counted
pub units_after_most : (t : List ℕ) (gap : ℕ) → length (units_after gap t) ≤ gap + units_for (length t)
units_after_most [] gap = zero-le
units_after_most (c ∷ []) gap =
    simp (length-append (sign_units gap (sign_of c)))
    (omega (arith, sign_most gap (sign_of c), byte_most c, gap_least c))
units_after_most (c ∷ d ∷ t) gap =
    simp (length-append (sign_units gap (sign_of c)))
    (omega (arith, sign_most gap (sign_of c), byte_most c, units_after_most (d ∷ t) (gap_after c)))

-- no text has more units than its characters allow
pub units_most : (t : List ℕ) → length (units_of t) ≤ units_for (length t)
unfolding units_of
units_most t = omega (arith, units_after_most t 0)

-- a gap is keyed before a sign that has marks
sign_after : (gap : ℕ) (ms : List Mark) → 0 < length (sign_units 0 ms)
    → length (sign_units gap ms) ≡ gap + length (sign_units 0 ms)
sign_after gap [] h = absurd (omega arith)
sign_after gap (m ∷ ms) h = simp (length-append, length-replicate) (omega arith)

-- a byte with one of the longest signs, over and over, has just as many
module _ (c : ℕ) (unspaced : is_space c ≡ false)
    (long : length (sign_units 0 (sign_of c)) + between_signs ≡ per_character) where
  repeated_after : (n gap : ℕ) → length (units_after gap (replicate (suc n) c)) ≡ gap + units_for (suc n)
  repeated_after zero gap =
      simp (length-append (sign_units gap (sign_of c)))
      (omega (arith, sign_after gap (sign_of c) (omega (arith, long)), long))
  repeated_after (suc n) gap =
      let next : gap_after c ≡ between_signs = rw unspaced refl in
      simp (length-append (sign_units gap (sign_of c)))
      (omega (arith, sign_after gap (sign_of c) (omega (arith, long)), long, next, repeated_after n (gap_after c)))

  pub repeated_units : (n : ℕ) → length (units_of (replicate n c)) ≡ units_for n
  unfolding units_of
  repeated_units zero = refl
  repeated_units (suc n) = repeated_after n 0 ∙ omega arith
