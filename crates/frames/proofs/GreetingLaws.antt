-- Laws of a greeting's text: one byte of a walk through its filler, the text of no greeting, and what a fair one has.
-- Assumes nothing.
use Rattle.std.proofs.Common.{◌≡◌, ℕ, ◌+◌, bit_or, ◌<◌, ◌≤◌, Bool, true, false, ◌&&◌, T, eqb, leb, List, length, get_or, take, drop, Ok, refl, add-one, arith, eqb→eq, drop-cons, eq-eqb, le-leb, leb-true}
use mathlib.Core.Bool.{and-false}
use borrow.Author.Tests.{lt-leb}
use Rattle.basics.proofs.ChoiceLaws.{is_true, and_left, and_right}
use Rattle.basics.proofs.BitLaws.{or_none}
use Rattle.morse.specs.Texts.{is_keyable, fault_of}
use Rattle.morse.proofs.TextsLaws.{keyable_fault}
use Rattle.frames.specs.Greeting.{longest_greeting, all_zero, is_greeting}

pub zero_step : (bytes : List ℕ) (i : ℕ) → i < length bytes → all_zero (drop i bytes) ≡ (eqb (get_or bytes i 0) 0 && all_zero (drop (i + 1) bytes))
zero_step bytes i h = rw (add-one, drop-cons bytes i 0)

-- one byte more: it is among what was found, or among what is left
pub blank_step :
    (any : ℕ) (bytes : List ℕ) (i : ℕ) → i < length bytes →
    (eqb (bit_or any (get_or bytes i 0)) 0 && all_zero (drop (i + 1) bytes)) ≡ (eqb any 0 && all_zero (drop i bytes))
blank_step any bytes i h =
    rw (or_none any (get_or bytes i 0), zero_step bytes i h) (by (eqb any 0) (eqb (get_or bytes i 0) 0) (all_zero (drop (i + 1) bytes)))
  where
    by : (a b rest : Bool) → ((b && a) && rest) ≡ (a && (b && rest))
    by true true rest = refl
    by true false rest = refl
    by false true rest = refl
    by false false rest = refl

module _ (characters : ℕ) (text : List ℕ) where
  -- more characters than sixteen are no greeting
  pub too_long : longest_greeting < characters → false ≡ is_greeting characters text
  unfolding is_greeting
  too_long h = rw (lt-leb characters longest_greeting h, and-false (eqb (length text) longest_greeting))

  -- of at most sixteen, the text and its filler decide
  pub by_text :
      (keyable blank : Bool) → length text ≡ longest_greeting → characters ≤ longest_greeting → keyable ≡ is_keyable (take characters text) →
      blank ≡ all_zero (drop characters text) → (keyable && blank) ≡ is_greeting characters text
  unfolding is_greeting
  by_text keyable blank sixteen most k b = rw (eq-eqb (length text) longest_greeting sixteen, le-leb characters longest_greeting most, k, b)

-- of no character, all sixteen bytes are filler
pub no_characters : (text : List ℕ) → length text ≡ longest_greeting → all_zero text ≡ is_greeting 0 text
unfolding fault_of
no_characters text sixteen = by_text 0 text true (all_zero text) sixteen (omega arith) refl refl

-- sixteen bytes, of which the first few are a text that may be keyed, and the rest 0
pub record Fair (characters : ℕ) (text : List ℕ) : Type 0 where
  pub sixteen : length text ≡ longest_greeting
  pub most : characters ≤ longest_greeting
  pub keyable : fault_of (take characters text) ≡ Ok tt
  pub filler : T (all_zero (drop characters text))

pub fair : (characters : ℕ) (text : List ℕ) → T (is_greeting characters text) → Fair characters text
unfolding is_greeting
fair characters text h =
    let sixteen : T (eqb (length text) longest_greeting) = search (and_left, and_right) in
    let most : T (leb characters longest_greeting) = search (and_left, and_right) in
    let keyable : T (is_keyable (take characters text)) = search (and_left, and_right) in
    record {
      sixteen = eqb→eq (length text) longest_greeting sixteen;
      most = leb-true characters longest_greeting (is_true (leb characters longest_greeting) most);
      keyable = keyable_fault (take characters text) keyable;
      filler = search (and_left, and_right);
    }
