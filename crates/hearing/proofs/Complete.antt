-- The units of a text that may be keyed are heard as that text.
-- Assumes nothing.
use Prim.Native.Nat.{ℕ, ◌-◌}
use native.Mathlib.Omega.{arith}
use mathlib.Core.Path.{◌≡◌, refl, sym, ap, ◌∙◌}
use mathlib.Core.Bool.{Bool, true, false, not, ◌&&◌, ◌||◌}
use mathlib.Core.List.{List, [], ◌∷◌, ◌++◌}
use Rattle.std.specs.Prelude.{Option, Some, None}
use Rattle.std.specs.Option.{option_map, option_and_then}
use lib.Dec.{T, eqb}
use borrow.Author.Tests.{eqb-true, not-true, lt-leb, ne_eqb}
use Rattle.basics.specs.Choice.{when◌then◌else◌, within}
use Rattle.basics.specs.Bytes.{space}
use Rattle.basics.proofs.ChoiceLaws.{is_true, holds, and_left, and_right, within_low, within_high}
use Rattle.morse.specs.Signs.{Mark, dot, dash, alphabet, sign_of, signed}
use Rattle.morse.specs.Texts.{is_space, all_known, fault_of}
use Rattle.morse.specs.Units.{up, span, sign_units, units_after, units_of, between_signs, between_words}
use Rattle.std.specs.Prelude.{Ok}
use Rattle.morse.proofs.Everywhere.{everywhere}
use Rattle.morse.proofs.TextsLaws.{fair}
use Rattle.hearing.specs.declared.decoding.Ear.{Ear}
use Rattle.hearing.specs.Numbers.{grown, climb, five_marks, byte_of, same_byte, after_mark}
use Rattle.hearing.specs.Decoding.{ear, begun, over, after_gap, told_by, last_of, heard_from, hear, heard}
use Rattle.hearing.specs.Reading.{Keys}
use Rattle.hearing.proofs.NumbersLaws.{same_byte_eq}
use Rattle.hearing.proofs.Spacing.{spaced_after, walk_spaced}

-- the number of a sign that may have one more mark
abbrev may_grow : ℕ → Bool
may_grow n = within 1 (five_marks - 1) n

-- all numbers on the way to a sign's last mark are such
abbrev rising : ℕ → List Mark → Bool
rising n [] = true
rising n (m ∷ ms) = may_grow n && rising (grown n m) ms

-- a sign's number is that of its byte alone, and the way to it is short: a test over the alphabet
abbrev numbered : ℕ → List Mark → Bool
numbered c ms = same_byte (byte_of (climb 1 ms)) (Some c) && rising 1 ms

own_number : ℕ → List Mark → Bool
own_number c ms = not (signed ms) || numbered c ms

sign_numbered : (c : ℕ) → T (signed (sign_of c)) → T (numbered c (sign_of c))
unfolding alphabet sign_of byte_of own_number
sign_numbered c s = by_sign (sign_of c) s (everywhere own_number alphabet tt (λ k. tt) c)
  where
    by_sign : (ms : List Mark) → T (signed ms) → T (own_number c ms) → T (numbered c ms)
    by_sign [] s t = absurd s
    by_sign (m ∷ ms) s t = t

-- a text heard after a sign with this number
abbrev spoken : ℕ → List ℕ → Option (List ℕ)
spoken n t = option_map (λ byte. byte ∷ t) (byte_of n)

-- the gap before a sign: a word is over, or only a sign
abbrev gap_of : (word : Bool) → ℕ
gap_of word = when word then between_words else between_signs

-- the text after such a gap
abbrev with_space : (word : Bool) → List ℕ → List ℕ
with_space word t = when word then space ∷ t else t

heard_over : (word : Bool) (byte : Option ℕ) (rest : Ear → Option (List ℕ)) (t : List ℕ) → rest begun ≡ Some t
    → heard_from (option_and_then (over (gap_of word)) byte) rest ≡ option_map (λ b. b ∷ with_space word t) byte
heard_over word None rest t e = refl
heard_over true (Some byte) rest t e = rw e
heard_over false (Some byte) rest t e = rw e

-- a mark is over
module _ (n : ℕ) (m : Mark) (short : T (may_grow n)) where
  after_mark_law : after_mark n (span m) ≡ Some (grown n m)
  unfolding after_mark
  after_mark_law =
      rw (
        lt-leb five_marks n (omega (arith, within_high 1 (five_marks - 1) n short)),
        ne_eqb n 0 (omega (arith, within_low 1 (five_marks - 1) n short)),
      )
      (by_mark m)
    where
      by_mark : (m : Mark)
          → (when eqb (span m) 1 then Some (grown n dot) else when eqb (span m) 3 then Some (grown n dash) else None)
          ≡ Some (grown n m)
      by_mark dot = refl
      by_mark dash = refl

  -- by the end of the text
  hear_end : hear (ear n (span m) 0) [] ≡ spoken (grown n m) []
  unfolding last_of
  hear_end = rw after_mark_law

  -- by the next mark of its sign
  hear_inside : (us : List ℕ) → hear (ear n (span m) 0) (0 ∷ 1 ∷ us) ≡ hear (ear (grown n m) 1 0) us
  unfolding told_by after_gap
  hear_inside us = rw (after_mark_law, ne_eqb (grown n m) 0 (positive m))
    where
      positive : (m : Mark) → grown n m ≡ 0 → ⊥
      positive dot e = omega (arith, within_low 1 (five_marks - 1) n short)
      positive dash e = omega arith

  -- by the next sign
  hear_gap : (word : Bool) (us t : List ℕ) → hear begun us ≡ Some t
      → hear (ear n (span m) 0) (up (gap_of word) ++ (1 ∷ us)) ≡ spoken (grown n m) (with_space word t)
  unfolding told_by after_gap
  hear_gap true us t e = rw after_mark_law (heard_over true (byte_of (grown n m)) (λ next. hear next us) t e)
  hear_gap false us t e = rw after_mark_law (heard_over false (byte_of (grown n m)) (λ next. hear next us) t e)

-- the marks of a sign past its first, by what is heard once the last is over
module _ (us : List ℕ) (said : ℕ → Option (List ℕ))
    (ends : (n : ℕ) (m : Mark) → T (may_grow n) → hear (ear n (span m) 0) us ≡ said (grown n m)) where
  hear_marks : (ms : List Mark) (n : ℕ) (m : Mark) → T (rising n (m ∷ ms))
      → hear (ear n (span m) 0) (sign_units 1 ms ++ us) ≡ said (climb n (m ∷ ms))
  unfolding told_by
  hear_marks [] n m r = ends n m (and_left (may_grow n) true r)
  hear_marks (dot ∷ ms) n m r =
      hear_inside n m (and_left (may_grow n) (rising (grown n m) (dot ∷ ms)) r) (sign_units 1 ms ++ us)
      ∙ hear_marks ms (grown n m) dot (and_right (may_grow n) (rising (grown n m) (dot ∷ ms)) r)
  hear_marks (dash ∷ ms) n m r =
      hear_inside n m (and_left (may_grow n) (rising (grown n m) (dash ∷ ms)) r) (1 ∷ 1 ∷ (sign_units 1 ms ++ us))
      ∙ hear_marks ms (grown n m) dash (and_right (may_grow n) (rising (grown n m) (dash ∷ ms)) r)

-- the rest of a text, after a mark and then a sign or a space
abbrev HearsRest : List ℕ → Type 0
HearsRest t = (word : Bool) (n : ℕ) (m : Mark) → T (may_grow n) → T (all_known t) → T (spaced_after word t)
    → hear (ear n (span m) 0) (units_after (gap_of word) t) ≡ spoken (grown n m) (with_space word t)

-- a whole sign and the rest of the text, from its first mark on
hear_sign : (c : ℕ) (t : List ℕ) (m : Mark) (ms : List Mark) → T (numbered c (m ∷ ms))
    → T (all_known t) → T (spaced_after false t) → HearsRest t
    → hear (ear 1 (span m) 0) (sign_units 1 ms ++ units_after between_signs t) ≡ Some (c ∷ t)
hear_sign c t m ms n k s rest =
    let own = same_byte (byte_of (climb 1 (m ∷ ms))) (Some c) in
    let is : byte_of (climb 1 (m ∷ ms)) ≡ Some c = same_byte_eq _ _ (and_left own (rising 1 (m ∷ ms)) n) in
    hear_marks (units_after between_signs t) (λ n. spoken n t) (λ n m h. rest false n m h k s) ms 1 m
    (and_right own (rising 1 (m ∷ ms)) n)
    ∙ rw is

-- a sign after a mark and a gap
hear_next : (word : Bool) (n : ℕ) (m : Mark) → T (may_grow n) → (m' : Mark) (ms : List Mark) (us t : List ℕ)
    → hear (ear 1 (span m') 0) (sign_units 1 ms ++ us) ≡ Some t
    → hear (ear n (span m) 0) (sign_units (gap_of word) (m' ∷ ms) ++ us) ≡ spoken (grown n m) (with_space word t)
unfolding told_by
hear_next true n m h dot ms us t e = hear_gap n m h true (sign_units 1 ms ++ us) t e
hear_next true n m h dash ms us t e = hear_gap n m h true (1 ∷ 1 ∷ (sign_units 1 ms ++ us)) t e
hear_next false n m h dot ms us t e = hear_gap n m h false (sign_units 1 ms ++ us) t e
hear_next false n m h dash ms us t e = hear_gap n m h false (1 ∷ 1 ∷ (sign_units 1 ms ++ us)) t e

hear_byte : (c : ℕ) (t : List ℕ) (word b : Bool) (n : ℕ) (m : Mark) → T (may_grow n) → is_space c ≡ b
    → T ((b || signed (sign_of c)) && all_known t) → T (not (word && b) && spaced_after b t) → HearsRest t
    → hear (ear n (span m) 0) (sign_units (gap_of word) (sign_of c) ++ units_after (gap_of b) t)
    ≡ spoken (grown n m) (with_space word (c ∷ t))
unfolding alphabet sign_of
hear_byte c t true true n m h e k s rest = absurd s
hear_byte c t false true n m h e k s rest =
    let q : c ≡ space = eqb-true c space e in
    let z : sign_of c ≡ [] = ap sign_of q in
    rw z (rest true n m h k s ∙ ap (λ (x : ℕ). spoken (grown n m) (x ∷ t)) (sym q))
hear_byte c t word false n m h e k s rest = by_sign (sign_of c) (sign_numbered c known) known
  where
    known : T (signed (sign_of c))
    known = and_left (signed (sign_of c)) (all_known t) k

    by_sign : (ms : List Mark) → T (numbered c ms) → T (signed ms)
        → hear (ear n (span m) 0) (sign_units (gap_of word) ms ++ units_after between_signs t)
        ≡ spoken (grown n m) (with_space word (c ∷ t))
    by_sign [] own g = absurd g
    by_sign (m' ∷ ms) own g =
        hear_next word n m h m' ms (units_after between_signs t) (c ∷ t)
        (hear_sign c t m' ms own (and_right (signed (sign_of c)) (all_known t) k)
        (and_right (not (word && false)) (spaced_after false t) s) rest)

hear_rest : (t : List ℕ) → HearsRest t
hear_rest [] true n m h k s = absurd s
hear_rest [] false n m h k s = hear_end n m h
hear_rest (c ∷ t) word n m h k s = hear_byte c t word (is_space c) n m h refl k s (hear_rest t)

-- the first byte, which is no space, and the rest
heard_byte : (c : ℕ) (t : List ℕ) (ms : List Mark) → T (signed ms) → T (numbered c ms)
    → T (all_known t) → T (spaced_after false t) → heard (sign_units 0 ms ++ units_after between_signs t) ≡ Some (c ∷ t)
unfolding heard told_by
heard_byte c t [] g n k s = absurd g
heard_byte c t (dot ∷ ms) g n k s = hear_sign c t dot ms n k s (hear_rest t)
heard_byte c t (dash ∷ ms) g n k s = hear_sign c t dash ms n k s (hear_rest t)

heard_right : (t : List ℕ) → fault_of t ≡ Ok tt → heard (units_of t) ≡ Some t
unfolding units_of heard
heard_right [] e = refl
heard_right (c ∷ t) e =
    let f = fair (c ∷ t) e in
    let walk = walk_spaced c t f.spaced in
    let no_space = not-true (is_space c) (is_true _ (and_left (not (is_space c)) (spaced_after (is_space c) t) walk)) in
    let s : T (spaced_after false t) = rw no_space at (and_right (not (is_space c)) (spaced_after (is_space c) t) walk) in
    let k : T (signed (sign_of c) && all_known t) = rw no_space at (holds (all_known (c ∷ t)) f.known) in
    let g = and_left (signed (sign_of c)) (all_known t) k in
    rw no_space (heard_byte c t (sign_of c) g (sign_numbered c g) (and_right (signed (sign_of c)) (all_known t) k) s)

-- units that are the keying of a text are heard as that text
pub heard_text : (text units : List ℕ) → Keys text units → heard units ≡ Some text
heard_text text units k = rw (← k.same) (heard_right text k.passes)
