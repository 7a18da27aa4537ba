-- Laws of cutting: the front lies within the bytes, and what follows a whole frame doesn't change it.
-- Assumes nothing.
use Rattle.std.proofs.Common.{◌≡◌, ℕ, zero, suc, ◌<◌, ◌≤◌, true, eqb, ltb, List, [], ◌∷◌, ◌++◌, length, take, Result, Ok, Err, sym, refl, ◌∙◌, le_refl, arith, length-append, length-take-le, ltb-false, le-ltb, ne_eqb, eqb-true}
use mathlib.Core.Bool.{false≢true}
use borrow.Author.Tests.{eqb-false}
use lib.Seq.{take-append-le}
use Rattle.basics.proofs.ChoiceLaws.{decided}
use Rattle.frames.specs.Kind.{total_of}
use Rattle.frames.specs.Reading.{Reading, byte_at, read_frame}
use Rattle.frames.specs.Cut.{cut_of, front_bytes, front_of}
use Rattle.frames.specs.declared.cut.Uncut.{Uncut}
use Rattle.frames.specs.declared.cut.Uncut.TheVariants.{Short, Unknown, Empty}
use Rattle.frames.proofs.ReadingLaws.{is_accepted}

-- a front is what the cut says of so many bytes
abbrev pub FrontWithin : Result ℕ Uncut → (bytes : ℕ) → Type 0
FrontWithin (Ok total) bytes = (0 < total) × (total ≤ bytes)
FrontWithin (Err Short) bytes = 0 < bytes
FrontWithin (Err Unknown) bytes = 0 < bytes
FrontWithin (Err Empty) bytes = Unit {0}

pub cut_within : (bytes : List ℕ) → FrontWithin (cut_of bytes) (length bytes)
unfolding cut_of
cut_within bytes =
    let total = total_of (byte_at 0 bytes) in
    decided (λ (f : Result ℕ Uncut). FrontWithin f (length bytes)) (eqb (length bytes) 0) (λ t. tt)
    (λ some. decided (λ (f : Result ℕ Uncut). FrontWithin f (length bytes)) (eqb total 0)
    (λ t. omega (arith, eqb-false (length bytes) 0 some))
    (λ known. decided (λ (f : Result ℕ Uncut). FrontWithin f (length bytes)) (ltb (length bytes) total)
    (λ t. omega (arith, eqb-false (length bytes) 0 some))
    (λ whole. (omega (arith, eqb-false total 0 known), ltb-false (length bytes) total whole))))

-- the frame at the front has no more bytes than there are, and one or more where there is one
within : (f : Result ℕ Uncut) (bytes : ℕ) → FrontWithin f bytes → front_bytes f bytes ≤ bytes
within (Ok total) bytes w = w.1
within (Err Short) bytes w = le_refl bytes
within (Err Unknown) bytes w = le_refl bytes
within (Err Empty) bytes w = le_refl bytes

pub front_within : (bytes : List ℕ) → front_bytes (cut_of bytes) (length bytes) ≤ length bytes
front_within bytes = within (cut_of bytes) (length bytes) (cut_within bytes)

some : (f : Result ℕ Uncut) (bytes : ℕ) → FrontWithin f bytes → 0 < bytes → 0 < front_bytes f bytes
some (Ok total) bytes w h = w.0
some (Err Short) bytes w h = h
some (Err Unknown) bytes w h = h
some (Err Empty) bytes w h = h

pub length_front : (bytes : List ℕ) → length (front_of bytes) ≡ front_bytes (cut_of bytes) (length bytes)
unfolding front_of
length_front bytes = length-take-le (front_bytes (cut_of bytes) (length bytes)) bytes (front_within bytes)

pub front_some : (bytes : List ℕ) → 0 < length bytes → 0 < length (front_of bytes)
front_some bytes h = rw (length_front bytes) (some (cut_of bytes) (length bytes) (cut_within bytes) h)

-- bytes that are accepted are a whole frame
record Whole (bytes : List ℕ) : Type 0 where
  known : 0 < total_of (byte_at 0 bytes)
  all : length bytes ≡ total_of (byte_at 0 bytes)

accepted_whole : (bytes : List ℕ) → is_accepted (read_frame bytes) ≡ true → Whole bytes
unfolding read_frame
accepted_whole bytes =
    let total = total_of (byte_at 0 bytes) in
    decided (λ (r : Reading). is_accepted r ≡ true → Whole bytes) (eqb (length bytes) 0) (λ t e. absurd (false≢true e)) λ some.
    decided (λ (r : Reading). is_accepted r ≡ true → Whole bytes) (eqb total 0) (λ t e. absurd (false≢true e)) λ known.
    decided (λ (r : Reading). is_accepted r ≡ true → Whole bytes) (eqb (length bytes) total)
    (λ same r. record { known = omega (arith, eqb-false total 0 known); all = eqb-true (length bytes) total same }) (λ t e. absurd (false≢true e))

-- a whole frame at the front
whole_front : (kind : ℕ) (fields : List ℕ) → 0 < total_of kind → total_of kind ≤ length (kind ∷ fields) → front_of (kind ∷ fields) ≡ take (total_of kind) (kind ∷ fields)
unfolding front_of cut_of
whole_front kind fields known fits =
    simp (ne_eqb (length (kind ∷ fields)) 0 (omega arith), ne_eqb (total_of kind) 0 (omega arith), le-ltb (length (kind ∷ fields)) (total_of kind) fits)

-- its kind
kind_front : (n kind : ℕ) (fields : List ℕ) → 0 < n → byte_at 0 (take n (kind ∷ fields)) ≡ kind
kind_front zero kind fields h = absurd (omega arith)
kind_front (suc n) kind fields h = refl

-- what follows a frame that is accepted doesn't change it
pub front_append : (bytes more : List ℕ) → is_accepted (read_frame (front_of bytes)) ≡ true → front_of (bytes ++ more) ≡ front_of bytes
unfolding front_of
front_append [] more r = absurd (omega (arith, (accepted_whole (front_of []) r).known, (accepted_whole (front_of []) r).all, length_front [], front_within []))
front_append (kind ∷ fields) more r =
    let bytes = kind ∷ fields in
    let w = accepted_whole (front_of bytes) r in
    let same : byte_at 0 (front_of bytes) ≡ kind = kind_front (front_bytes (cut_of bytes) (length bytes)) kind fields (rw (length_front bytes) at (front_some bytes (omega arith))) in
    let known : 0 < total_of kind = rw same at w.known in
    let total : length (front_of bytes) ≡ total_of kind = rw same at w.all in
    let fits : total_of kind ≤ length bytes = omega (arith, total, length_front bytes, front_within bytes) in
    whole_front kind (fields ++ more) known (rw length-append (omega arith)) ∙ take-append-le (total_of kind) bytes more fits ∙ sym (whole_front kind fields known fits)
