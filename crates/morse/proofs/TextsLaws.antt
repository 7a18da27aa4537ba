-- Laws of the texts that may be keyed: one byte of a walk through a text, what no fault tells, two texts joined by a
-- space, and one byte over and over.
-- Assumes nothing.
use mathlib.Core.Path.{◌≡◌, refl, sym, ap, ◌∙◌}
use mathlib.Core.Bool.{Bool, true, false, not, ◌&&◌, ◌||◌, or-false, and-false}
use mathlib.Core.List.{List, [], ◌∷◌, ◌++◌}
use Prim.Native.Nat.{ℕ, zero, suc, ◌+◌, ◌-◌, ◌<◌, ◌≤◌, zero-le, suc-le-suc}
use native.Mathlib.Numerals.{add-one}
use native.Mathlib.Omega.{arith}
use lib.ListN.{length, get_or, drop, replicate, length-append, length-replicate, drop_of_length-le}
use lib.Seq.{drop-cons, get_or-append-add}
use lib.Dec.{T, ltb}
use borrow.Author.Tests.{lt-ltb, le-ltb, ltb-false}
use Rattle.std.specs.Prelude.{Result, Ok, Err, is_ok}
use Rattle.basics.specs.Choice.{when◌then◌else◌}
use Rattle.basics.specs.Bytes.{space}
use Rattle.basics.proofs.ChoiceLaws.{is_true, holds, and_left, and_right, neither_left, neither_right}
use Rattle.morse.specs.declared.signs.Sign.{Sign}
use Rattle.morse.specs.Answers.{no_room}
use Rattle.morse.specs.declared.texts.Fault.{Fault}
use Rattle.morse.specs.declared.texts.Fault.TheVariants.{TextTooLong, NotKeyable, BadSpace}
use Rattle.morse.specs.Signs.{signed}
use Rattle.morse.specs.SignTable.{unpack, marks_of}
use Rattle.morse.specs.Texts.{longest, is_space, known, all_known, doubled, badly_spaced}
use Rattle.morse.specs.Texts.{fault_of, found_number, is_keyable}

-- a sign has marks where it says so
pub signed_len : (s : Sign) → ltb 0 s.len ≡ signed (marks_of s)
unfolding marks_of
signed_len s = by_len s.len s.marks
  where
    by_len : (n bits : ℕ) → ltb 0 n ≡ signed (unpack n bits)
    by_len zero bits = refl
    by_len (suc n) bits = lt-ltb 0 (suc n) (suc-le-suc zero-le)

-- a space after a space in a text that another byte stands before
abbrev pub doubled_after : (before : ℕ) → List ℕ → Bool
doubled_after before t = is_space before && is_space (get_or t 0 0) || doubled t

module _ (t : List ℕ) (i : ℕ) (h : i < length t) where
  pub known_step : all_known (drop i t) ≡ (known (get_or t i 0) && all_known (drop (i + 1) t))
  known_step = rw (add-one, drop-cons t i 0)

-- a walk through a text has come to its end
module _ (t : List ℕ) (i : ℕ) (h : length t ≤ i) where
  none_left : drop i t ≡ []
  none_left = drop_of_length-le t {i = i} h

  pub known_all : all_known (drop i t) ≡ all_known t → all_known t ≡ true
  known_all e = sym e ∙ ap all_known none_left

  pub doubled_all : (double : Bool) (before : ℕ) → (double || doubled_after before (drop i t)) ≡ doubled t → doubled t ≡ double
  doubled_all double before e =
      let end : doubled_after before [] ≡ false = or-false (is_space before && false) ∙ and-false (is_space before) in
      sym e ∙ ap (λ r. double || doubled_after before r) none_left ∙ ap (λ r. double || r) end ∙ or-false double

-- where the first two refusals do not apply, the spacing decides
module _ (t : List ℕ) (short : length t ≤ longest) (known : all_known t ≡ true) where
  pub spaced_badly : badly_spaced t ≡ true → Err BadSpace ≡ fault_of t
  unfolding fault_of
  spaced_badly b = simp (le-ltb longest (length t) short, known, b)

  pub spaced_well : badly_spaced t ≡ false → Ok (tt {0}) ≡ fault_of t
  unfolding fault_of
  spaced_well b = simp (le-ltb longest (length t) short, known, b)

-- no fault: all three of the page's conditions hold
pub record Fair (t : List ℕ) : Type 0 where
  pub short : length t ≤ longest
  pub known : all_known t ≡ true
  pub spaced : badly_spaced t ≡ false

pub fair : (t : List ℕ) → fault_of t ≡ Ok tt → Fair t
unfolding fault_of
fair t e = by_tests (ltb longest (length t)) refl (all_known t) refl (badly_spaced t) refl e
  where
    by_tests : (a : Bool) → ltb longest (length t) ≡ a → (b : Bool) → all_known t ≡ b
        → (c : Bool) → badly_spaced t ≡ c
        → (when a then Err TextTooLong else when not b then Err NotKeyable else when c then Err BadSpace else Ok (tt {0}))
        ≡ Ok (tt {0}) → Fair t
    by_tests true p b q c r z = cc
    by_tests false p false q c r z = cc
    by_tests false p true q true r z = cc
    by_tests false p true q false r z = record { short = ltb-false longest (length t) p; known = q; spaced = r }

-- a text that keying takes has no fault
pub keyable_fault : (t : List ℕ) → T (is_keyable t) → fault_of t ≡ Ok tt
keyable_fault t h = by_found (fault_of t) h
  where
    by_found : (found : Result Unit Fault) → T (is_ok found) → found ≡ Ok tt
    by_found (Ok _) h = refl
    by_found (Err fault) h = absurd h

-- what is found of a text has not the number 14
pub fault_not_room : (found : Result Unit Fault) → found_number found ≡ no_room → ⊥
fault_not_room (Ok _) e = omega arith
fault_not_room (Err TextTooLong) e = omega arith
fault_not_room (Err NotKeyable) e = omega arith
fault_not_room (Err BadSpace) e = omega arith

pub fairly : (t : List ℕ) → Fair t → fault_of t ≡ Ok tt
fairly t f = sym (spaced_well t f.short f.known f.spaced)

less_one : (n : ℕ) → suc n - 1 ≡ n
less_one n = omega arith

-- two texts with a space between them
module _ (b : List ℕ) where
  known_joined : (a : List ℕ) → all_known a ≡ true → all_known b ≡ true → all_known (a ++ (space ∷ b)) ≡ true
  known_joined [] ka kb = kb
  known_joined (c ∷ a) ka kb =
      let both = holds (known c && all_known a) ka in
      rw (is_true (known c) (and_left (known c) (all_known a) both)) (known_joined a (is_true (all_known a) (and_right (known c) (all_known a) both)) kb)

  doubled_joined :
      (a : List ℕ) → 0 < length a → doubled a ≡ false → is_space (get_or a (length a - 1) 0) ≡ false → is_space (get_or b 0 0) ≡ false →
      doubled b ≡ false → doubled (a ++ (space ∷ b)) ≡ false
  doubled_joined [] some da last first db = absurd (omega arith)
  doubled_joined (c ∷ []) some da last first db = rw (last, first, db)
  doubled_joined (c ∷ e ∷ a) some da last first db =
      rw (neither_left (is_space c && is_space e) (doubled (e ∷ a)) da)
      (doubled_joined (e ∷ a) (omega arith) (neither_right (is_space c && is_space e) (doubled (e ∷ a)) da)
      (rw (less_one (length a)) (rw (less_one (suc (length a))) at last)) first db)

-- the spaces of a text that is not badly spaced
record Spaced (t : List ℕ) : Type 0 where
  first : is_space (get_or t 0 0) ≡ false
  last : is_space (get_or t (length t - 1) 0) ≡ false
  single : doubled t ≡ false

spaced : (t : List ℕ) → badly_spaced t ≡ false → Spaced t
spaced t e = record { first = search (neither_left, neither_right); last = search (neither_left, neither_right); single = search (neither_left, neither_right) }

well_spaced : (t : List ℕ) → Spaced t → badly_spaced t ≡ false
well_spaced t s = rw (s.first, s.last, s.single)

-- the last byte of the second is that of both
last_joined : (a b : List ℕ) → 0 < length b → get_or (a ++ (space ∷ b)) (length (a ++ (space ∷ b)) - 1) 0 ≡ get_or b (length b - 1) 0
last_joined a [] h = absurd (omega arith)
last_joined a (c ∷ b) h =
    let place : length (a ++ (space ∷ c ∷ b)) - 1 ≡ length a + suc (length b) = rw (length-append a (space ∷ c ∷ b)) (omega arith) in
    ap (λ n. get_or (a ++ (space ∷ c ∷ b)) n 0) place ∙ get_or-append-add a (space ∷ c ∷ b) (suc (length b)) 0
    ∙ ap (λ n. get_or (c ∷ b) n 0) (sym (less_one (length b)))

pub joined : (a b : List ℕ) → Fair a → Fair b → 0 < length a → 0 < length b → length a + 1 + length b ≤ longest → Fair (a ++ (space ∷ b))
joined [] b fa fb ha hb h = absurd (omega arith)
joined (c ∷ a) b fa fb ha hb h =
    let sa = spaced (c ∷ a) fa.spaced in
    let sb = spaced b fb.spaced in
    record {
      short = rw (length-append (c ∷ a) (space ∷ b)) (omega arith);
      known = known_joined b (c ∷ a) fa.known fb.known;
      spaced =
          well_spaced ((c ∷ a) ++ (space ∷ b))
          (record {
            first = sa.first;
            last = ap is_space (last_joined (c ∷ a) b hb) ∙ sb.last;
            single = doubled_joined b (c ∷ a) ha sa.single sa.last sb.first sb.single;
          });
    }

-- a byte of the alphabet that is no space, over and over
module _ (c : ℕ) (is_known : known c ≡ true) (unspaced : is_space c ≡ false) where
  repeated_known : (n : ℕ) → all_known (replicate n c) ≡ true
  repeated_known zero = refl
  repeated_known (suc n) = rw is_known (repeated_known n)

  repeated_single : (n : ℕ) → doubled (replicate n c) ≡ false
  repeated_single zero = refl
  repeated_single (suc n) = rw unspaced (repeated_single n)

  repeated_at : (n i : ℕ) → is_space (get_or (replicate n c) i 0) ≡ false
  repeated_at zero i = refl
  repeated_at (suc n) zero = unspaced
  repeated_at (suc n) (suc i) = repeated_at n i

  pub repeated : (n : ℕ) → n ≤ longest → Fair (replicate n c)
  repeated n h =
      record {
        short = rw (length-replicate n c) h;
        known = repeated_known n;
        spaced =
            well_spaced (replicate n c)
            (record {
              first = repeated_at n 0;
              last = repeated_at n (length (replicate n c) - 1);
              single = repeated_single n;
            });
      }
