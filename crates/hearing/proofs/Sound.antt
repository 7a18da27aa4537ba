-- What is heard of units is a text that may be keyed, but for its length, and the units are its keying.
-- Assumes nothing.
use Prim.Native.Nat.{ℕ, ◌≤◌, ◌<◌}
use native.Mathlib.Omega.{arith}
use mathlib.Core.Path.{◌≡◌, refl, sym, ap, ◌∙◌}
use mathlib.Core.Bool.{true, false, not, ◌&&◌}
use mathlib.Core.List.{List, [], ◌∷◌, ◌++◌, append-nil, append_assoc}
use Rattle.std.specs.Prelude.{Option, Some, None}
use Rattle.std.specs.Option.{option_map, option_and_then}
use lib.Dec.{T, eqb}
use lib.ListN.{length}
use borrow.Author.Tests.{eqb-true, not-true}
use Rattle.basics.specs.Bytes.{space}
use Rattle.basics.proofs.ChoiceLaws.{is_true, and_left, and_right, and_both, decided}
use Rattle.morse.specs.Signs.{Mark, alphabet, sign_of, signed}
use Rattle.morse.specs.Texts.{longest, is_space, all_known, fault_of}
use Rattle.morse.specs.Units.{up, down, between_signs, between_words, sign_units, gap_after, units_after, units_of}
use Rattle.morse.proofs.TextsLaws.{spaced_well}
use Rattle.hearing.specs.declared.decoding.Ear.{Ear}
use Rattle.hearing.specs.declared.decoding.Told.{Told}
use Rattle.hearing.specs.declared.decoding.Told.TheVariants.{On, Sign, Word}
use Rattle.hearing.specs.Numbers.{byte_of, after_mark}
use Rattle.hearing.specs.Decoding.{ear, begun, told_by, last_of, after, heard_from, hear, heard}
use Rattle.hearing.specs.Reading.{Keys}
use Rattle.hearing.proofs.Spacing.{spaced_after, spaced_walk}
use Rattle.hearing.proofs.NumbersLaws.{path_root, Marked, marked, spoken}
use Rattle.hearing.proofs.Telling.{so_far, Over, Right, sign_spoken, told_right}

-- a text, and the units that are its keying
pub record Rightly (units text : List ℕ) : Type 0 where
  pub same : units_after 0 text ≡ units
  pub known : T (all_known text)
  pub spaced : T (spaced_after true text)

-- what holds of the text that is heard, if there is one
abbrev pub Holds : (List ℕ → Type 0) → Option (List ℕ) → Type 0
Holds P None = Unit
Holds P (Some text) = P text

holds_after : (P Q : List ℕ → Type 0) (bytes : List ℕ) → ((text : List ℕ) → P text → Q (bytes ++ text))
    → (o : Option (List ℕ)) → Holds P o → Holds Q (after bytes o)
holds_after P Q bytes f None h = tt
holds_after P Q bytes f (Some text) h = f text h

-- a text may follow a sign if it may follow a word
after_sign : (t : List ℕ) → T (spaced_after true t) → T (spaced_after false t)
after_sign [] s = absurd s
after_sign (c ∷ t) s = and_right (not (is_space c)) (spaced_after (is_space c) t) s

-- the units of such a text after a gap
gap_before : (gap : ℕ) (t : List ℕ) → T (all_known t) → T (spaced_after true t)
    → units_after gap t ≡ up gap ++ units_after 0 t
gap_before gap [] k s = absurd s
gap_before gap (c ∷ t) k s =
    let no_space = not-true (is_space c) (is_true _ (and_left (not (is_space c)) (spaced_after (is_space c) t) s)) in
    let g : T (signed (sign_of c) && all_known t) = rw no_space at k in
    by_sign (sign_of c) (and_left (signed (sign_of c)) (all_known t) g)
  where
    by_sign : (ms : List Mark) → T (signed ms)
        → sign_units gap ms ++ units_after (gap_after c) t ≡ up gap ++ (sign_units 0 ms ++ units_after (gap_after c) t)
    by_sign [] g = absurd g
    by_sign (m ∷ ms) g = simp append_assoc

-- a sign is over, and the rest of the text begun by a first unit
module _ (e : Ear) (unit byte : ℕ) (us t : List ℕ) (r : Rightly (1 ∷ us) t) where
  joined : (gap : ℕ) → Over e unit byte gap
      → sign_units 0 (sign_of byte) ++ units_after gap t ≡ so_far e ++ (unit ∷ us)
  joined gap o =
      rw (gap_before gap t r.known r.spaced, r.same)
      (sym (sym (append_assoc (so_far e) (unit ∷ []) us) ∙ ap (λ l. l ++ us) o.same ∙ simp append_assoc))

  sign_over : Over e unit byte between_signs → Rightly (so_far e ++ (unit ∷ us)) (byte ∷ t)
  sign_over o =
      let rest = and_both (signed (sign_of byte)) (all_known t) o.known r.known in
      record {
        same = rw o.inner (joined between_signs o);
        known = rw o.inner rest;
        spaced = rw o.inner (after_sign t r.spaced);
      }

  word_over : Over e unit byte between_words → Rightly (so_far e ++ (unit ∷ us)) (byte ∷ space ∷ t)
  unfolding alphabet sign_of
  word_over o =
      let rest = and_both (signed (sign_of byte)) (all_known t) o.known r.known in
      record { same = joined between_words o; known = rw o.inner rest; spaced = rw o.inner r.spaced }

-- nothing follows the last sign
last_right : (n d g : ℕ) → 0 < n → Holds (Rightly (so_far (ear n d g) ++ [])) (hear (ear n d g) [])
unfolding last_of
last_right n d g p =
    decided (Last g) (eqb g 0) (λ z. rw (eqb-true g 0 z) (by_mark (after_mark n d) refl)) (λ z. tt)
  where
    Last : (gap : ℕ) → Option ℕ → Type 0
    Last gap byte = Holds (Rightly (so_far (ear n d gap) ++ [])) (option_map (λ b. b ∷ []) byte)

    by_byte : (k : ℕ) → Marked n d k → (byte : Option ℕ) → byte_of k ≡ byte → Last 0 byte
    by_byte k m None e = tt
    by_byte k m (Some byte) e =
        let s = spoken k byte e in
        record {
          same = rw (sign_spoken n d p k m byte e, append-nil (down d));
          known = rw s.inner (and_both (signed (sign_of byte)) true s.known tt);
          spaced = rw s.inner tt;
        }

    by_mark : (number : Option ℕ) → after_mark n d ≡ number → Last 0 (option_and_then byte_of number)
    by_mark None e = tt
    by_mark (Some k) e = by_byte k (marked n d k e) (byte_of k) refl

told_heard : (us : List ℕ) (e : Ear) (unit : ℕ)
    → ((next : Ear) → 0 < next.number → Holds (Rightly (so_far next ++ us)) (hear next us))
    → (told : Option Told) → Right e unit told → Holds (Rightly (so_far e ++ (unit ∷ us))) (heard_from told (λ e. hear e us))
told_heard us e unit rest told r = by_told told r
  where
    Text : List ℕ → Type 0
    Text = Rightly (so_far e ++ (unit ∷ us))

    from_begun : Holds (Rightly (1 ∷ us)) (hear begun us)
    from_begun = rw path_root at (rest begun (omega arith))

    by_told : (told : Option Told) → Right e unit told → Holds Text (heard_from told (λ e. hear e us))
    by_told None o = tt
    by_told (Some (On next)) r = rw (← append_assoc (so_far e) (unit ∷ []) us, r.1) (rest next r.0)
    by_told (Some (Sign byte)) o =
        holds_after (Rightly (1 ∷ us)) Text (byte ∷ []) (λ t r. sign_over e unit byte us t r o) (hear begun us) from_begun
    by_told (Some (Word byte)) o =
        holds_after (Rightly (1 ∷ us)) Text (byte ∷ space ∷ []) (λ t r. word_over e unit byte us t r o)
        (hear begun us) from_begun

hear_right : (us : List ℕ) (e : Ear) → 0 < e.number → Holds (Rightly (so_far e ++ us)) (hear e us)
hear_right [] e p = last_right e.number e.down e.up p
hear_right (unit ∷ us) e p =
    told_heard us e unit (λ next q. hear_right us next q) (told_by e unit)
    (told_right e.number e.down p e.up unit)

rightly_keys : (units text : List ℕ) → Rightly units text → length text ≤ longest → Keys text units
unfolding units_of
rightly_keys units [] r h = absurd r.spaced
rightly_keys units (c ∷ t) r h =
    let known = is_true (all_known (c ∷ t)) r.known in
    record { passes = sym (spaced_well (c ∷ t) h known (spaced_walk c t r.spaced)); same = r.same }

-- what is heard of units and is not too long is the text of which they are the keying
pub heard_keys : (units : List ℕ) → Holds (λ text. length text ≤ longest → Keys text units) (heard units)
unfolding heard fault_of units_of
heard_keys [] = λ h. record { passes = refl; same = refl }
heard_keys (unit ∷ units) =
    by_text (hear (ear 1 0 0) (unit ∷ units)) (rw path_root at (hear_right (unit ∷ units) (ear 1 0 0) (omega arith)))
  where
    by_text : (o : Option (List ℕ)) → Holds (Rightly (unit ∷ units)) o
        → Holds (λ text. length text ≤ longest → Keys text (unit ∷ units)) o
    by_text None r = tt
    by_text (Some text) r = rightly_keys (unit ∷ units) text r
