-- Laws of reading: what it must answer, by what is heard of the units, and that there is no second outcome.
-- Assumes nothing.
use mathlib.Core.Path.{◌≡◌, refl, sym, ap, ◌∙◌}
use mathlib.Core.Bool.{Bool, true, false}
use mathlib.Core.List.{List, ◌++◌}
use mathlib.Core.Logic.{◌⊎◌, inl, inr, ⊎_elim}
use Rattle.std.specs.Prelude.{Option, Some, None, Result, Ok, Err}
use Prim.Native.Nat.{ℕ, ◌+◌, ◌<◌, ◌≤◌}
use native.Mathlib.Omega.{arith}
use lib.Dec.{ltb}
use lib.ListN.{length, replicate, take, drop}
use lib.Seq.{take-length, take-append_seam}
use borrow.Author.Tests.{ltb-true, ltb-false, lt-ltb, le-ltb}
use Rattle.basics.specs.Outcome.{Outcome, outcome}
use Rattle.basics.proofs.Stores.{sets_front}
use Rattle.morse.specs.Texts.{longest}
use Rattle.morse.proofs.TextsLaws.{fair}
use Rattle.hearing.specs.declared.reading.ReadFault.{ReadFault}
use Rattle.hearing.specs.declared.reading.ReadFault.TheVariants.{NotAKeying, NoRoom}
use Rattle.hearing.specs.Decoding.{heard, Decoded}
use Rattle.hearing.specs.Reading.{Keys, read_text, Read}
use Rattle.hearing.proofs.Complete.{heard_text}
use Rattle.hearing.proofs.Sound.{Holds, heard_keys}

-- no two texts have one keying
pub one_text : (s t units : List ℕ) → Keys s units → Keys t units → s ≡ t
one_text s t units p q = cc (heard_text s units p, heard_text t units q)

-- the room in which a text is kept aside, before it is heard
abbrev blank : List ℕ
blank = replicate longest 0

-- what is kept aside
module _ (units : List ℕ) (count : Option ℕ) (kept : List ℕ) (d : Decoded 0 (heard units) blank count kept) where
  -- it is a text, by a count that one may have
  pub kept_text : (n : ℕ) → count ≡ Some n → n ≤ longest → (length (take n kept) ≡ n) × Keys (take n kept) units
  kept_text n e h = by_heard (heard units) (heard_keys units) d
    where
      by_heard : (o : Option (List ℕ)) → Holds (λ text. length text ≤ longest → Keys text units) o
          → Decoded 0 o blank count kept → (length (take n kept) ≡ n) × Keys (take n kept) units
      by_heard None k s = let z : ◌≡◌ {A = Option ℕ} None (Some n) = sym s ∙ e in cc
      by_heard (Some text) k s =
          let l : n ≡ 0 + length text = let z : Some n ≡ Some (0 + length text) = sym e ∙ s.0 in cc in
          let m : n ≡ length text = omega arith in
          let w = s.1 ∙ sets_front text blank (omega arith) in
          rw (m, w, take-append_seam text (drop (length text) blank)) (refl, k (omega arith))

  -- there is none, where no text has the count
  pub read_none : (room : List ℕ) → ((n : ℕ) → count ≡ Some n → n ≤ longest → ⊥) → Read units room (outcome (Err NotAKeying) room)
  read_none room h = record { told = λ text k. absurd (no_text text k); refused = λ f. refl }
    where
      no_text : (text : List ℕ) → Keys text units → ⊥
      no_text text k = let s = rw (heard_text text units k) at d in h _ s.0 (omega (arith, (fair text k.passes).short))

module _ (units room text : List ℕ) (k : Keys text units) where
  read_keys : Read units room (read_text text room)
  read_keys = record {
    told = λ t l. ap (λ x. read_text x room) (one_text text t units k l);
    refused = λ f. absurd (f text k);
  }

  pub read_short : length room < length text → Read units room (outcome (Err NoRoom) room)
  unfolding read_text
  read_short h = simp (lt-ltb (length room) (length text) h) at read_keys

  -- the text is copied into the room
  pub read_copied : {n : ℕ} {later : List ℕ} → n ≡ length text → later ≡ take (length text) text ++ drop (length text) room
      → length text ≤ length room → Read units room (outcome (Ok n) later)
  unfolding read_text
  read_copied n w h = rw (n, w, take-length text) (simp (le-ltb (length room) (length text) h) at read_keys)

-- units are the keying of a text, or of none
text_or_none : (units : List ℕ) → ((text : List ℕ) × Keys text units) ⊎ ((text : List ℕ) → Keys text units → ⊥)
text_or_none units = by_heard (heard units) refl (heard_keys units)
  where
    by_length : (t : List ℕ) → heard units ≡ Some t → (length t ≤ longest → Keys t units) → (b : Bool)
        → ltb longest (length t) ≡ b → ((text : List ℕ) × Keys text units) ⊎ ((text : List ℕ) → Keys text units → ⊥)
    by_length t e k true p =
        inr (λ s q.
        let same : s ≡ t = cc (heard_text s units q) in
        omega (arith, ltb-true longest (length t) p, ap length same, (fair s q.passes).short))
    by_length t e k false p = inl (t, k (ltb-false longest (length t) p))

    by_heard : (o : Option (List ℕ)) → heard units ≡ o → Holds (λ text. length text ≤ longest → Keys text units) o
        → ((text : List ℕ) × Keys text units) ⊎ ((text : List ℕ) → Keys text units → ⊥)
    by_heard None e k = inr (λ s q. let z : ◌≡◌ {A = Option (List ℕ)} None (Some s) = sym e ∙ heard_text s units q in cc)
    by_heard (Some t) e k = by_length t e k (ltb longest (length t)) refl

-- no second outcome satisfies reading's contract
pub one_reading : (units room : List ℕ) (a b : Outcome (Result ℕ ReadFault)) → Read units room a → Read units room b → a ≡ b
one_reading units room a b p q =
    ⊎_elim (λ x. p.told x.0 x.1 ∙ sym (q.told x.0 x.1)) (λ n. p.refused n ∙ sym (q.refused n))
    (text_or_none units)
