-- What each unit tells is true of the units so far: those of the marks that lead to the number of the sign at hand.
-- Assumes nothing.
use Prim.Native.Nat.{ℕ, ◌+◌, ◌<◌}
use native.Mathlib.Omega.{arith}
use mathlib.Core.Path.{◌≡◌, refl, sym, ap, ◌∙◌}
use mathlib.Core.Bool.{false, not}
use mathlib.Core.List.{List, [], ◌∷◌, ◌++◌, append-nil, append_assoc}
use lib.Dec.{T, eqb}
use lib.ListN.{replicate-append-replicate}
use borrow.Author.Tests.{eqb-true, ne_eqb, not-false}
use Rattle.std.specs.Prelude.{Option, Some, None}
use Rattle.std.specs.Option.{option_and_then}
use Rattle.basics.proofs.ChoiceLaws.{decided}
use Rattle.morse.specs.Signs.{Mark, dot, dash, sign_of, signed}
use Rattle.morse.specs.Texts.{is_space}
use Rattle.morse.specs.Units.{up, down, span, inside_sign, between_signs, between_words, sign_units}
use Rattle.hearing.specs.declared.decoding.Ear.{Ear}
use Rattle.hearing.specs.declared.decoding.Told.{Told}
use Rattle.hearing.specs.declared.decoding.Told.TheVariants.{On, Sign, Word}
use Rattle.hearing.specs.Numbers.{grown, byte_of, after_mark}
use Rattle.hearing.specs.Decoding.{ear, over, after_gap, told_by}
use Rattle.hearing.proofs.NumbersLaws.{path, path_grown, Marked, marked, spoken}

-- the units of marks, each with the gap inside a sign after it
abbrev lead : List Mark → List ℕ
lead [] = []
lead (m ∷ ms) = down (span m) ++ (0 ∷ lead ms)

lead_more : (ms : List Mark) (m : Mark) → lead (ms ++ (m ∷ [])) ≡ lead ms ++ (down (span m) ++ (0 ∷ []))
lead_more [] m = refl
lead_more (x ∷ ms) m = rw (lead_more ms m) (simp append_assoc)

sign_inside : (ms : List Mark) (m : Mark) → sign_units inside_sign (ms ++ (m ∷ [])) ≡ 0 ∷ (lead ms ++ down (span m))
sign_inside [] m = ap (λ l. 0 ∷ l) (append-nil (down (span m)))
sign_inside (x ∷ ms) m = rw (sign_inside ms m) (simp append_assoc)

sign_lead : (ms : List Mark) (m : Mark) → sign_units 0 (ms ++ (m ∷ [])) ≡ lead ms ++ down (span m)
sign_lead [] m = append-nil (down (span m))
sign_lead (x ∷ ms) m = rw (sign_inside ms m) (simp append_assoc)

-- the units of the sign at hand
abbrev pub so_far : Ear → List ℕ
so_far e = lead (path e.number) ++ (down e.down ++ up e.up)

-- a sign is over by a gap and a mark's first unit
pub record Over (e : Ear) (unit byte gap : ℕ) : Type 0 where
  pub known : T (signed (sign_of byte))
  pub inner : is_space byte ≡ false
  pub same : so_far e ++ (unit ∷ []) ≡ sign_units 0 (sign_of byte) ++ (up gap ++ (1 ∷ []))

-- what a unit tells is true of the units so far and it
abbrev pub Right : Ear → (unit : ℕ) → Option Told → Type 0
Right e unit None = Unit
Right e unit (Some (On next)) = (0 < next.number) × (so_far e ++ (unit ∷ []) ≡ so_far next)
Right e unit (Some (Sign byte)) = Over e unit byte between_signs
Right e unit (Some (Word byte)) = Over e unit byte between_words

-- one more mark leads to no number that has none
grown_some : (n : ℕ) (m : Mark) → 0 < n → 0 < grown n m
grown_some n dot p = omega arith
grown_some n dash p = omega arith

module _ (n d : ℕ) (p : 0 < n) where
  -- a mark is over: the number after it
  module _ (k : ℕ) (m : Marked n d k) where
    -- the marks so far, with one more
    path_marked : path k ≡ path n ++ (m.mark ∷ [])
    path_marked = rw m.grows (path_grown n m.mark p m.short)

    lead_marked : lead (path k) ≡ lead (path n) ++ (down d ++ (0 ∷ []))
    lead_marked =
        ap lead path_marked ∙ lead_more (path n) m.mark
        ∙ ap (λ l. lead (path n) ++ (down l ++ (0 ∷ []))) (sym m.spans)

    sign_marked : sign_units 0 (path k) ≡ lead (path n) ++ down d
    sign_marked =
        ap (sign_units 0) path_marked ∙ sign_lead (path n) m.mark
        ∙ ap (λ l. lead (path n) ++ down l) (sym m.spans)

    -- a byte that is heard has the marks so far
    pub sign_spoken : (byte : ℕ) → byte_of k ≡ Some byte → sign_units 0 (sign_of byte) ≡ lead (path n) ++ down d
    sign_spoken byte e = rw (spoken k byte e).sign sign_marked

    byte_over : (byte gap : ℕ) → byte_of k ≡ Some byte → Over (ear n d gap) 1 byte gap
    byte_over byte gap e =
        let s = spoken k byte e in
        record { known = s.known; inner = s.inner; same = rw (sign_spoken byte e) (simp append_assoc) }

    gap_right : (g : ℕ) → Right (ear n d g) 1 (after_gap k g)
    unfolding after_gap
    gap_right g =
        decided By (eqb g inside_sign) (λ i. rw (ne_eqb k 0 (omega (arith, some)), eqb-true g 1 i) inside)
        (λ i. by_byte (byte_of k) refl)
      where
        By : Option Told → Type 0
        By = Right (ear n d g) 1

        some : 0 < k
        some = rw m.grows (grown_some n m.mark p)

        inside : Right (ear n d 1) 1 (Some (On (ear k 1 0)))
        inside = (some, sym (ap (λ l. l ++ (1 ∷ [])) lead_marked))

        by_byte : (o : Option ℕ) → byte_of k ≡ o → By (option_and_then (over g) o)
        by_byte None e = tt
        by_byte (Some byte) e =
            decided By (eqb g between_signs) (λ s. rw (eqb-true g between_signs s) (byte_over byte between_signs e))
            (λ j. decided By (eqb g between_words) (λ w. rw (eqb-true g between_words w) (byte_over byte between_words e)) (λ j. tt))

  pub told_right : (g unit : ℕ) → Right (ear n d g) unit (told_by (ear n d g) unit)
  unfolding told_by
  told_right g unit =
      decided By (eqb unit 0) (λ z. (p, rw (eqb-true unit 0 z) longer_up))
      (λ i. decided By (not (eqb unit 1)) (λ z. tt)
      (λ o. decided By (eqb g 0) (λ z. (p, rw (eqb-true unit 1 (not-false _ o), eqb-true g 0 z) longer_down))
      (λ j. rw (eqb-true unit 1 (not-false _ o)) (by_mark (after_mark n d) refl))))
    where
      By : Option Told → Type 0
      By = Right (ear n d g) unit

      longer_up : so_far (ear n d g) ++ (0 ∷ []) ≡ so_far (ear n d (g + 1))
      longer_up = rw (append_assoc, append_assoc, replicate-append-replicate {A = ℕ} g 1 0)

      longer_down : so_far (ear n d 0) ++ (1 ∷ []) ≡ so_far (ear n (d + 1) 0)
      longer_down = rw (append-nil (down d), append-nil (down (d + 1)), append_assoc, replicate-append-replicate {A = ℕ} d 1 1)

      by_mark : (o : Option ℕ) → after_mark n d ≡ o → Right (ear n d g) 1 (option_and_then (λ k. after_gap k g) o)
      by_mark None e = tt
      by_mark (Some k) e = gap_right k (marked n d k e) g
