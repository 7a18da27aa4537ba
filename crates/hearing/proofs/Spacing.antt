-- A text that is well spaced, as a walk through it goes.
-- Assumes nothing.
use Prim.Native.Nat.{ℕ}
use native.Mathlib.Numerals.{sub-one}
use mathlib.Core.Path.{◌≡◌, refl}
use mathlib.Core.Bool.{Bool, true, false, not, ◌&&◌, ◌||◌, true≢false}
use mathlib.Core.List.{List, [], ◌∷◌}
use lib.Dec.{T}
use lib.ListN.{length, get_or}
use borrow.Author.Tests.{not-true}
use Rattle.basics.proofs.ChoiceLaws.{is_true, and_left, and_right, and_both}
use Rattle.morse.specs.Texts.{is_space, doubled, badly_spaced}

-- no space after a space, and none last
abbrev pub spaced_after : (word : Bool) → List ℕ → Bool
spaced_after word [] = not word
spaced_after word (c ∷ t) = not (word && is_space c) && spaced_after (is_space c) t

nor : (a b : Bool) → (a || b) ≡ false → (a ≡ false) × (b ≡ false)
nor true b e = absurd (true≢false e)
nor false b e = (refl, e)

is_false : (a : Bool) → T (not a) → a ≡ false
is_false a t = not-true a (is_true (not a) t)

walk : (c : ℕ) (t : List ℕ) → doubled (c ∷ t) ≡ false → is_space (get_or (c ∷ t) (length t) 0) ≡ false
    → T (spaced_after (is_space c) t)
walk c [] d l = rw l tt
walk c (e ∷ t) d l =
    let n = nor (is_space c && is_space e) (doubled (e ∷ t)) d in
    and_both (not (is_space c && is_space e)) (spaced_after (is_space e) t) (rw n.0 tt) (walk e t n.1 l)

walked : (c : ℕ) (t : List ℕ) → T (spaced_after (is_space c) t)
    → (is_space (get_or (c ∷ t) (length t) 0) ≡ false) × (doubled (c ∷ t) ≡ false)
walked c [] s = let e = is_false (is_space c) s in (e, rw e)
walked c (e ∷ t) s =
    let rest = walked e t (and_right (not (is_space c && is_space e)) (spaced_after (is_space e) t) s) in
    let n = is_false (is_space c && is_space e) (and_left (not (is_space c && is_space e)) (spaced_after (is_space e) t) s) in
    (rest.0, rw n rest.1)

-- a text that is not badly spaced may stand after a space, as the walk goes, and one that may is not badly spaced
pub walk_spaced : (c : ℕ) (t : List ℕ) → badly_spaced (c ∷ t) ≡ false → T (spaced_after true (c ∷ t))
walk_spaced c t b =
    let last = is_space (get_or (c ∷ t) (length t) 0) in
    let n = nor (is_space c || last) (doubled (c ∷ t)) (rw sub-one at b) in
    let m = nor (is_space c) last n.0 in
    and_both (not (is_space c)) (spaced_after (is_space c) t) (rw m.0 tt) (walk c t n.1 m.1)

pub spaced_walk : (c : ℕ) (t : List ℕ) → T (spaced_after true (c ∷ t)) → badly_spaced (c ∷ t) ≡ false
spaced_walk c t s =
    let first = is_false (is_space c) (and_left (not (is_space c)) (spaced_after (is_space c) t) s) in
    let rest = walked c t (and_right (not (is_space c)) (spaced_after (is_space c) t) s) in
    rw (sub-one, first, rest.0) (rw first at rest.1)
