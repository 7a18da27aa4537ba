-- Laws of the signs: the code's tables and figures are the page's, and which bytes have no sign.
-- Assumes nothing.
use mathlib.Core.Path.{◌≡◌, refl, ap}
use mathlib.Core.Bool.{Bool, true, false, not, ◌||◌}
use mathlib.Core.List.{List, [], ◌∷◌}
use Prim.Native.Nat.{ℕ, ◌+◌, ◌-◌, ◌*◌, ◌/◌, ◌%◌, ◌^◌, ◌<◌, ◌≤◌}
use native.Mathlib.Omega.{arith}
use lib.Dec.{T, eqb, ltb}
use lib.ListN.{length, get_or}
use Rattle.basics.specs.Choice.{when◌then◌else◌, within}
use Rattle.basics.proofs.ChoiceLaws.{is_false, and_left, or_right, within_low, within_high}
use Rattle.basics.proofs.TablesLaws.{upto}
use Rattle.morse.specs.declared.signs.Sign.{Sign}
use Rattle.morse.specs.Signs.{Mark, dot, dash, first_figure, is_figure, alphabet, sign_of, signed}
use Rattle.morse.specs.SignTable.{unpack, marks_of, lasts, same_marks, no_sign, is_sign, HasSigns}
use Rattle.morse.specs.SignTable.{first_sign, last_sign, first_stop, last_stop, figure_count, figure_marks, is_figure_sign}
use Rattle.morse.specs.Units.{sign_units}
use Rattle.morse.proofs.Everywhere.{everywhere}

pub same_marks_eq : (s t : List Mark) → T (same_marks s t) → s ≡ t
same_marks_eq [] [] h = refl
same_marks_eq (dot ∷ s) (dot ∷ t) h = ap (λ ms. dot ∷ ms) (same_marks_eq s t h)
same_marks_eq (dash ∷ s) (dash ∷ t) h = ap (λ ms. dash ∷ ms) (same_marks_eq s t h)
same_marks_eq [] (m ∷ t) h = absurd h
same_marks_eq (m ∷ s) [] h = absurd h
same_marks_eq (dot ∷ s) (dash ∷ t) h = absurd h
same_marks_eq (dash ∷ s) (dot ∷ t) h = absurd h

-- what a table says of a byte of its run
pub table_right : (first last : ℕ) (table : List Sign) → HasSigns first last table
    → (c : ℕ) → first ≤ c → c ≤ last → marks_of (get_or table (c - first) no_sign) ≡ sign_of c
table_right first last table t c low high =
    let sign = get_or table (c - first) no_sign in
    let e : first + (c - first) ≡ c = omega arith in
    let right = rw e at (upto (is_sign first table) (last + 1 - first) t (c - first) (omega arith)) in
    same_marks_eq _ _
    (and_left (same_marks (marks_of sign) (sign_of c)) (eqb (length (sign_units 0 (sign_of c))) (lasts sign)) right)

-- the rule gives each of the ten figures: antt computes its test
pub figure_right : (digit : ℕ) → digit < figure_count → figure_marks digit ≡ sign_of (first_figure + digit)
unfolding alphabet sign_of
figure_right digit h = same_marks_eq _ _ (upto is_figure_sign figure_count tt digit h)

-- the bits by which the code works a figure out
abbrev pub figure_bits : ℕ → ℕ
figure_bits digit = when ltb digit 5 then 31 * 2 ^ digit % 256 else 31 / 2 ^ (10 - digit)

-- they are its marks: a test over the figures
pub figure_bits_law : (digit : ℕ) → digit < figure_count → unpack 5 (figure_bits digit) ≡ figure_marks digit
figure_bits_law digit h =
    same_marks_eq _ _ (upto (λ d. same_marks (unpack 5 (figure_bits d)) (figure_marks d)) figure_count tt digit h)

-- the runs of bytes that the tables are for
abbrev is_in_letters : ℕ → Bool
is_in_letters c = within first_sign last_sign c

abbrev is_in_stops : ℕ → Bool
is_in_stops c = within first_stop last_stop c

-- a byte is in one of the runs, or a figure, or has no sign
abbrev placed : ℕ → List Mark → Bool
placed c ms = is_in_letters c || is_figure c || is_in_stops c || not (signed ms)

outside : (low high n : ℕ) → (low ≤ n → n ≤ high → ⊥) → within low high n ≡ false
outside low high n h = is_false (within low high n) (λ t. h (within_low low high n t) (within_high low high n t))

-- a byte in no run that is no figure has no sign: a test over the alphabet
pub no_sign_law : (c : ℕ) → (first_sign ≤ c → c ≤ last_sign → ⊥) → (48 ≤ c → c ≤ 57 → ⊥)
    → (first_stop ≤ c → c ≤ last_stop → ⊥) → sign_of c ≡ []
unfolding alphabet sign_of
no_sign_law c l f s =
    unsigned (sign_of c)
    (rw (outside first_sign last_sign c l, outside 48 57 c f, outside first_stop last_stop c s)
    at (everywhere placed alphabet tt past c))
  where
    past : (k : ℕ) → T (is_in_letters k || is_figure k || is_in_stops k || true)
    past k = or_right (is_in_letters k || is_figure k || is_in_stops k) true tt

    unsigned : (ms : List Mark) → T (not (signed ms)) → ms ≡ []
    unsigned [] t = refl
    unsigned (m ∷ ms) t = absurd t
