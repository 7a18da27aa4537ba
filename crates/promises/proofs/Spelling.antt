-- Which texts may be keyed, proved: a byte has a sign just where it stands in a row of the alphabet.
-- Assumes nothing.
use Prim.Native.Nat.{ℕ}
use mathlib.Core.Path.{◌≡◌, refl, sym, ◌∙◌}
use mathlib.Core.Bool.{Bool, true, false, ◌||◌, true≢false}
use mathlib.Core.List.{List, [], ◌∷◌}
use mathlib.Core.Logic.{◌⊎◌, inl, inr}
use lib.Dec.{T, eqb}
use lib.ListN.{length}
use borrow.Author.Tests.{eqb-true, eq-eqb, le-ltb}
use Rattle.basics.specs.Choice.{when◌then◌else◌}
use Rattle.basics.specs.Bytes.{space}
use Rattle.basics.proofs.ChoiceLaws.{is_true, is_false, holds, and_left, and_right, and_both, or_right, decided}
use Rattle.morse.specs.Signs.{Mark, Row, alphabet, sign_among, sign_of, signed}
use Rattle.morse.specs.Texts.{longest, is_space, known, all_known, fault_of}
use Rattle.morse.specs.Keying.{key_of}
use Rattle.std.specs.Prelude.{Ok}
use Rattle.morse.proofs.Everywhere.{every_row}
use Rattle.morse.proofs.TextsLaws.{fair, spaced_well}
use Rattle.morse.proofs.KeyingLaws.{keyed_within}
use Rattle.hearing.specs.Reading.{read_text}
use Rattle.hearing.proofs.ReadBack.{key_done, same_keying}
use Rattle.promises.specs.Spelling.{Has, Spelt, TextOver, KeyedOver, TwelveOver, ReadOver, Spelling}

-- a byte of a row has a sign among the rows, if each row has one
pub has_signed : (rows : List Row) → T (every_row (λ c ms. signed ms) rows) → (c : ℕ) → Has rows c → T (signed (sign_among c rows))
has_signed [] t c h = absurd h
has_signed (r ∷ rs) t c h =
    decided (λ (ms : List Mark). T (signed ms)) (eqb c r.byte)
    (λ e. and_left (signed r.sign) (every_row (λ c ms. signed ms) rs) t)
    (λ e. has_signed rs (and_right (signed r.sign) (every_row (λ c ms. signed ms) rs) t) c (past e h))
  where
    past : eqb c r.byte ≡ false → (c ≡ r.byte) ⊎ Has rs c → Has rs c
    past e (inl q) = absurd (true≢false (sym (eq-eqb c r.byte q) ∙ e))
    past e (inr h) = h

-- and a byte that has one is that of a row
signed_has : (rows : List Row) (c : ℕ) → T (signed (sign_among c rows)) → Has rows c
signed_has [] c t = absurd t
signed_has (r ∷ rs) c t = by_byte (λ u. signed_has rs c u) (eqb c r.byte) refl t
  where
    by_byte : (T (signed (sign_among c rs)) → Has rs c) → (b : Bool) → eqb c r.byte ≡ b
        → T (signed (when b then r.sign else sign_among c rs)) → Has (r ∷ rs) c
    by_byte rest true e t = inl (eqb-true c r.byte e)
    by_byte rest false e t = inr (rest t)

-- so the bytes of the alphabet and the space are those that keying knows
known_spelt : (c : ℕ) → T (known c) → (c ≡ space) ⊎ Has alphabet c
unfolding sign_of
known_spelt c t = by_space (is_space c) refl t
  where
    by_space : (b : Bool) → is_space c ≡ b → T (b || signed (sign_of c)) → (c ≡ space) ⊎ Has alphabet c
    by_space true e t = inl (eqb-true c space e)
    by_space false e t = inr (signed_has alphabet c t)

spelt_known : (c : ℕ) → (c ≡ space) ⊎ Has alphabet c → T (known c)
unfolding alphabet sign_of
spelt_known c (inl e) = rw (eq-eqb c space e) tt
spelt_known c (inr h) = or_right (is_space c) (signed (sign_of c)) (has_signed alphabet tt c h)

all_spelt : (t : List ℕ) → T (all_known t) → Spelt alphabet t
all_spelt [] k = tt
all_spelt (c ∷ t) k =
    (known_spelt c (and_left (known c) (all_known t) k), all_spelt t (and_right (known c) (all_known t) k))

all_known_law : (t : List ℕ) → Spelt alphabet t → T (all_known t)
all_known_law [] s = tt
all_known_law (c ∷ t) s = and_both (known c) (all_known t) (spelt_known c s.0) (all_known_law t s.1)

-- a text over the alphabet has no fault, and one without a fault is over it
pub passes : (t : List ℕ) → TextOver alphabet t → fault_of t ≡ Ok tt
passes t o =
    sym (spaced_well t o.short (is_true (all_known t) (all_known_law t o.spelt)) o.spaced)

over : (t : List ℕ) → fault_of t ≡ Ok tt → TextOver alphabet t
over t e =
    let f = fair t e in
    record { short = f.short; spelt = all_spelt t (holds (all_known t) f.known); spaced = f.spaced }

keyed : KeyedOver alphabet
keyed text room o h = keyed_within text room (passes text o) h

twelve : TwelveOver alphabet
unfolding key_of fault_of
twelve text room short n =
    rw (le-ltb longest (length text) short, is_false (all_known text) (λ k. n (all_spelt text k)))

back : ReadOver alphabet
unfolding read_text
back text room after o r h =
    r.told text (record { passes = passes text o; same = refl }) ∙ rw (le-ltb (length room) (length text) h)

pub spelling : Spelling
spelling = record {
  keyed = keyed;
  only = λ text room later n k. over text (key_done text room later n k).passes;
  twelve = twelve;
  back = back;
  one = λ s t p q e. same_keying s t (passes s p) (passes t q) e;
  fifteen = λ units room after r n. r.refused (λ text k. n text (over text k.passes) k.same);
}
