-- What a sign's number stands for: the figure that is worked out of it, the marks that lead to it, one more mark, and the
-- byte of a sign with those marks.
-- Assumes nothing.
use Prim.Native.Nat.{ℕ, zero, suc, ◌+◌, ◌-◌, ◌*◌, ◌/◌, ◌%◌, ◌<◌, ◌≤◌}
use mathlib.Core.Path.{◌≡◌, refl, sym, ap, subst}
use mathlib.Core.Bool.{Bool, true, false, not, ◌&&◌, ◌||◌}
use mathlib.Core.List.{List, [], ◌∷◌, ◌++◌}
use native.Mathlib.Nat.{not-suc-le-zero}
use native.Mathlib.Omega.{arith}
use lib.Dec.{T, eqb, leb, ltb, eqb→eq}
use Rattle.std.specs.Prelude.{Option, Some, None}
use Rattle.std.specs.Bool.{then_some}
use Rattle.std.specs.Option.{option_or}
use borrow.Author.Tests.{eqb-true, ltb-true, leb-false, le-ltb, ne_eqb, not-true}
use Rattle.basics.specs.Choice.{when◌then◌else◌}
use Rattle.basics.proofs.ChoiceLaws.{is_true, and_left, and_right}
use Rattle.basics.proofs.TablesLaws.{upto}
use Rattle.morse.specs.Signs.{Mark, dot, dash, punctuation, alphabet, sign_of, signed}
use Rattle.morse.specs.SignTable.{mark_of, same_marks}
use Rattle.morse.specs.Texts.{is_space}
use Rattle.morse.specs.Units.{span}
use Rattle.morse.proofs.SignsLaws.{same_marks_eq}
use Rattle.hearing.specs.Numbers.{grown, four_marks, five_marks, six_marks, byte_among, byte_of, same_byte, no_letter, letter_of}
use Rattle.hearing.specs.Numbers.{past_by, figure_by, after_mark}

pub same_byte_eq : (a b : Option ℕ) → T (same_byte a b) → a ≡ b
same_byte_eq None None t = refl
same_byte_eq (Some a) (Some b) t = ap Some (eqb→eq a b t)
same_byte_eq None (Some b) t = absurd t
same_byte_eq (Some a) None t = absurd t

-- a part that is not 32 yet is doubled once more
pub past_on : (turns first part : ℕ) → 0 < turns → part < four_marks
    → past_by turns first part ≡ past_by (turns - 1) (first + 1) (2 * part)
past_on zero first part t h = absurd (not-suc-le-zero t)
past_on (suc turns) first part t h =
    let e : suc turns - 1 ≡ turns = omega arith in
    rw (ne_eqb part four_marks (omega arith), e)

-- beyond 32, there is none
pub past_never : (turns first part : ℕ) → four_marks < part → past_by turns first part ≡ None
past_never zero first part h = refl
past_never (suc turns) first part h =
    simp (ne_eqb part four_marks (omega arith)) (past_never turns (first + 1) (2 * part) (omega arith))

-- at 32 it is the byte at hand
pub past_end : (turns first part : ℕ) → (part ≡ four_marks → 0 < turns) → four_marks ≤ part
    → then_some (eqb part four_marks) first ≡ past_by turns first part
past_end zero first part t h = rw (ne_eqb part four_marks (λ e. not-suc-le-zero (t e)))
past_end (suc turns) first part t h = by_test (eqb part four_marks)
  where
    by_test : (b : Bool) → then_some b first ≡ (when b then Some first else past_by turns (first + 1) (2 * part))
    by_test true = refl
    by_test false = sym (past_never turns (first + 1) (2 * part) (omega arith))

-- the letter of an entry of the code's table
pub letter_some : (entry : ℕ) → then_some (not (eqb entry no_letter)) entry ≡ letter_of entry
letter_some entry = by_test (eqb entry no_letter)
  where
    by_test : (b : Bool) → then_some (not b) entry ≡ (when b then None else Some entry)
    by_test true = refl
    by_test false = refl

-- the byte of a sign of five or six marks: a figure, or else punctuation
abbrev pub long_by : ℕ → Option ℕ
long_by n = option_or (figure_by n) (byte_among n punctuation)

-- it is the byte whose sign has the number: a test over the signs of five and six marks
pub long_heard : (n : ℕ) → four_marks ≤ n → n < six_marks → long_by n ≡ byte_of n
unfolding alphabet byte_of
long_heard n low high =
    let e : four_marks + (n - four_marks) ≡ n = omega arith in
    let heard : ℕ → Bool = λ k. same_byte (long_by (four_marks + k)) (byte_of (four_marks + k)) in
    same_byte_eq _ _ (rw e at (upto heard (six_marks - four_marks) tt (n - four_marks) (omega arith)))

-- the marks that lead to a number, the last of so many
abbrev marks_to : (most number : ℕ) → List Mark
marks_to zero number = []
marks_to (suc most) number =
    when ltb number 2 then [] else marks_to most (number / 2) ++ (mark_of (number % 2) ∷ [])

-- the marks that lead to a number, which are six at most
pub path : ℕ → List Mark
path number = marks_to 6 number

-- one more mark: a test over the numbers of the signs that may have one
grows : ℕ → Bool
grows k =
    ltb k 1 || same_marks (path (grown k dot)) (path k ++ (dot ∷ [])) && same_marks (path (grown k dash)) (path k ++ (dash ∷ []))

pub path_grown : (n : ℕ) (m : Mark) → 0 < n → n < five_marks → path (grown n m) ≡ path n ++ (m ∷ [])
unfolding path grows
path_grown n m p h = by_mark m (rw (le-ltb n 1 p) at (upto grows five_marks tt n h))
  where
    by_mark : (m : Mark)
        → T (same_marks (path (grown n dot)) (path n ++ (dot ∷ [])) && same_marks (path (grown n dash)) (path n ++ (dash ∷ [])))
        → path (grown n m) ≡ path n ++ (m ∷ [])
    by_mark dot t = same_marks_eq _ _ (and_left (same_marks (path (grown n dot)) (path n ++ (dot ∷ []))) _ t)
    by_mark dash t = same_marks_eq _ _ (and_right (same_marks (path (grown n dot)) (path n ++ (dot ∷ []))) _ t)

-- the root has no marks
pub path_root : path 1 ≡ []
unfolding path
path_root = refl

-- a number that a mark leads to
pub record Marked (number down next : ℕ) : Type 0 where
  pub mark : Mark
  pub spans : down ≡ span mark
  pub short : number < five_marks
  pub grows : next ≡ grown number mark

pub marked : (n d next : ℕ) → after_mark n d ≡ Some next → Marked n d next
unfolding after_mark
marked n d next e = by_tests (leb five_marks n) refl (eqb d 1) refl (eqb n 0) (eqb d 3) refl e
  where
    by_tests : (a : Bool) → leb five_marks n ≡ a → (b : Bool) → eqb d 1 ≡ b → (z c : Bool) → eqb d 3 ≡ c
        → (when a then None
        else when b then (when z then None else Some (grown n dot))
        else when c then Some (grown n dash) else None) ≡ Some next
        → Marked n d next
    by_tests true p b q z c r e = cc
    by_tests false p true q true c r e = cc
    by_tests false p true q false c r e =
        record { mark = dot; spans = eqb-true d 1 q; short = leb-false five_marks n p; grows = cc }
    by_tests false p false q z true r e =
        record { mark = dash; spans = eqb-true d 3 r; short = leb-false five_marks n p; grows = cc }
    by_tests false p false q z false r e = cc

-- a byte that has the marks of a number
pub record Spoken (number byte : ℕ) : Type 0 where
  pub sign : sign_of byte ≡ path number
  pub known : T (signed (sign_of byte))
  pub inner : is_space byte ≡ false

-- each byte that is heard is such: a test over the numbers
abbrev has_marks : ℕ → Option ℕ → Bool
has_marks k None = true
has_marks k (Some byte) = (same_marks (sign_of byte) (path k) && signed (sign_of byte)) && not (is_space byte)

own_marks : ℕ → Bool
own_marks k = has_marks k (byte_of k)

pub spoken : (n byte : ℕ) → byte_of n ≡ Some byte → Spoken n byte
unfolding path byte_of alphabet sign_of own_marks
spoken n byte e = by_place (ltb n six_marks) refl
  where
    by_place : (b : Bool) → ltb n six_marks ≡ b → Spoken n byte
    by_place true p =
        let same = same_marks (sign_of byte) (path n) in
        let all = subst (λ (o : Option ℕ). T (has_marks n o)) e (upto own_marks six_marks tt n (ltb-true n six_marks p)) in
        let both = and_left (same && signed (sign_of byte)) (not (is_space byte)) all in
        record {
          sign = same_marks_eq _ _ (and_left same (signed (sign_of byte)) both);
          known = and_right same (signed (sign_of byte)) both;
          inner = not-true _ (is_true _ (and_right (same && signed (sign_of byte)) (not (is_space byte)) all));
        }
    by_place false p = let z = rw p at e in cc
