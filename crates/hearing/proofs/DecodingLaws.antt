-- Laws of what the decoder hears, one unit at a time, as its loop goes.
-- Assumes nothing.
use mathlib.Core.Path.{◌≡◌, refl, ap, ◌∙◌}
use mathlib.Core.Bool.{not}
use mathlib.Core.List.{List, [], ◌∷◌, ◌++◌}
use Prim.Native.Nat.{ℕ, ◌+◌, ◌<◌, ◌≤◌}
use native.Mathlib.Numerals.{add-one}
use native.Mathlib.Omega.{arith}
use lib.ListN.{length, get_or, set, drop, length-append}
use lib.Seq.{sets, drop-cons}
use lib.Dec.{eqb}
use Rattle.std.specs.Prelude.{Option, Some, None}
use Rattle.std.specs.Option.{option_and_then}
use Rattle.basics.specs.Bytes.{space}
use Rattle.basics.proofs.ChoiceLaws.{either}
use Rattle.basics.proofs.Stores.{sets_append}
use Rattle.hearing.specs.declared.decoding.Ear.{Ear}
use Rattle.hearing.specs.declared.decoding.Told.{Told}
use Rattle.hearing.specs.declared.decoding.Told.TheVariants.{On, Sign, Word}
use Rattle.morse.specs.Units.{inside_sign, between_signs, between_words}
use Rattle.hearing.specs.Numbers.{byte_of, after_mark}
use Rattle.hearing.specs.Decoding.{ear, begun, over, after_gap, told_by, after, heard_from, hear, heard, Decoded}

decoded_after : (bytes : List ℕ) (rest : Option (List ℕ)) (room : List ℕ) (at : ℕ) (count : Option ℕ) (later : List ℕ)
    → Decoded (at + length bytes) rest (sets room at bytes) count later → Decoded at (after bytes rest) room count later
decoded_after bytes None room at count later d = d
decoded_after bytes (Some text) room at count later d =
    let e : at + length bytes + length text ≡ at + length (bytes ++ text) = omega (arith, length-append bytes text) in
    (d.0 ∙ ap Some e, d.1 ∙ simp sets_append)

-- whatever the decoder leaves of the units from i on, it leaves of them all
pub record Leads (units : List ℕ) (i : ℕ) (e : Ear) (room₀ room : List ℕ) (at : ℕ) : Type 0 where
  pub leads : (count : Option ℕ) (later : List ℕ)
      → Decoded at (hear e (drop i units)) room count later → Decoded 0 (heard units) room₀ count later

-- one unit off what is left, by what it tells
module _ {units : List ℕ} {i : ℕ} {e : Ear} {room₀ room : List ℕ} {at : ℕ}
    (h : i < length units) (l : Leads units i e room₀ room at) where
  abbrev rest : Ear → Option (List ℕ)
  rest next = hear next (drop (i + 1) units)

  hear_told : (told : Option Told) → told_by e (get_or units i 0) ≡ told → hear e (drop i units) ≡ heard_from told rest
  hear_told told t =
      let unit : drop i units ≡ get_or units i 0 ∷ drop (i + 1) units = rw (add-one i, drop-cons units i 0) in
      ap (hear e) unit ∙ ap (λ x. heard_from x rest) t

  leads_told : (told : Option Told) → told_by e (get_or units i 0) ≡ told → (count : Option ℕ) (later : List ℕ)
      → Decoded at (heard_from told rest) room count later → Decoded 0 (heard units) room₀ count later
  leads_told told t count later d = l.leads count later (rw (hear_told told t) d)

  pub leads_on : (next : Ear) → told_by e (get_or units i 0) ≡ Some (On next) → Leads units (i + 1) next room₀ room at
  leads_on next t = record { leads = leads_told (Some (On next)) t }

  -- a new sign is begun, and bytes are stored
  leads_begun : (bytes : List ℕ) (told : Option Told) → told_by e (get_or units i 0) ≡ told
      → heard_from told rest ≡ after bytes (rest begun) → {after : List ℕ} → after ≡ sets room at bytes
      → Leads units (i + 1) begun room₀ after (at + length bytes)
  leads_begun bytes told t b w =
      rw w
      (record {
        leads = λ count later d.
            leads_told told t count later (rw b (decoded_after bytes (rest begun) room at count later d));
      })

  pub leads_sign : (byte : ℕ) → told_by e (get_or units i 0) ≡ Some (Sign byte) → {after : List ℕ} → after ≡ set room at byte
      → Leads units (i + 1) begun room₀ after (at + 1)
  leads_sign byte t = leads_begun (byte ∷ []) (Some (Sign byte)) t refl

  pub leads_word : (byte : ℕ) → told_by e (get_or units i 0) ≡ Some (Word byte)
      → {after : List ℕ} → after ≡ set (set room at byte) (at + 1) space
      → Leads units (i + 1) begun room₀ after (at + 2)
  leads_word byte t w = leads_begun (byte ∷ space ∷ []) (Some (Word byte)) t refl (w ∙ rw add-one)

-- a unit makes a mark or a gap longer by one at most
abbrev Near : ℕ → Option Told → Type 0
Near n (Some (On e)) = (e.down ≤ n) × (e.up ≤ n)
Near n (Some (Sign byte)) = Unit
Near n (Some (Word byte)) = Unit
Near n None = Unit

pub told_near : (e : Ear) (unit n : ℕ) → e.down ≤ n → e.up ≤ n → Near (n + 1) (told_by e unit)
unfolding told_by after_gap
told_near e unit n d u =
    either Next (eqb unit 0) (omega arith, omega arith)
    (either Next (not (eqb unit 1)) tt
    (either Next (eqb e.up 0) (omega arith, omega arith) (by_mark (after_mark e.number e.down))))
  where
    Next : Option Told → Type 0
    Next = Near (n + 1)

    by_byte : (byte : Option ℕ) → Next (option_and_then (over e.up) byte)
    by_byte None = tt
    by_byte (Some byte) = either Next (eqb e.up between_signs) tt (either Next (eqb e.up between_words) tt tt)

    by_mark : (number : Option ℕ) → Next (option_and_then (λ k. after_gap k e.up) number)
    by_mark None = tt
    by_mark (Some number) =
        either Next (eqb e.up inside_sign) (either Next (eqb number 0) tt (omega arith, omega arith)) (by_byte (byte_of number))

pub heard_none : (us : List ℕ) → length us ≡ 0 → heard us ≡ Some []
unfolding heard
heard_none [] h = refl
heard_none (u ∷ us) h = absurd (omega arith)

pub heard_some : (us : List ℕ) → (length us ≡ 0 → ⊥) → heard us ≡ hear (ear 1 0 0) us
unfolding heard
heard_some [] h = absurd (h refl)
heard_some (u ∷ us) h = refl
