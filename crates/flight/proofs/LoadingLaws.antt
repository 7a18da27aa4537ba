-- Laws of loading: the fields of a saved state say that state, and what the fields of an image say saves to that image.
-- Assumes nothing.
use Prim.Native.Nat.{ℕ, zero, suc, ◌+◌, ◌*◌, ◌<◌, ◌≤◌}
use native.Mathlib.Omega.{arith}
use native.Mathlib.Numerals.{add-one}
use native.Mathlib.Nat.{add-zero, zero-add, add_assoc, le_of_suc-le-suc, not-suc-le-zero}
use mathlib.Core.Path.{◌≡◌, refl, sym, ap, subst, ◌∙◌}
use mathlib.Core.Bool.{true}
use mathlib.Core.List.{List, [], ◌∷◌, ◌++◌, append_assoc}
use lib.Dec.{T, eqb→eq, leb→le}
use denote.Param.Members.{Mut, Called}
use Rattle.std.specs.Array.{IsFromFnResultFrom, IsFromFnResult}
use lib.ListN.{length, get_or, take, drop, replicate, length-append}
use lib.Seq.{get_or-append-add, ext_get_or, drop-cons, take_all, take-append-le, take_at}
use Rattle.basics.specs.Each.{each, each_from}
use Rattle.basics.proofs.ChoiceLaws.{holds, and_left, and_right}
use Rattle.basics.proofs.EachLaws.{length_each, at_each}
use Rattle.modules.specs.Groups.{module_count}
use Rattle.modules.specs.Power.{power_in_range}
use Rattle.modules.specs.Stage.{modules_in_range}
use Rattle.modules.specs.declared.power.Module.{Module}
use Rattle.frames.specs.Greeting.{longest_greeting}
use Rattle.frames.specs.Reading.{byte_at}
use Rattle.supervisor.specs.Range.{in_range}
use Rattle.supervisor.specs.declared.state.State.{State}
use Rattle.supervisor.proofs.RangeLaws.{parts}
use Rattle.supervisor.proofs.ModuleLaws.{Eight}
use Rattle.flight.specs.Fields.{pair_bytes, pair_at, quad_at}
use Rattle.flight.specs.Codes.{module_code, module_from}
use Rattle.flight.specs.Saving.{image_bytes, layout_version, message_place, text_place, ends_place, masks_place, modules_place}
use Rattle.flight.specs.Saving.{message_bytes, ends_bytes, masks_bytes, modules_bytes, head_bytes, saved}
use Rattle.flight.specs.Loading.{has_layout, blank, message_in, ends_in, masks_in, modules_in, decoded}
use Rattle.flight.proofs.FieldsLaws.{AllBytes, flag_back, pair_back, triple_back, quad_back, flag_stored}
use Rattle.flight.proofs.FieldsLaws.{pair_small, pair_low, pair_high, triple_low, triple_middle, triple_high}
use Rattle.flight.proofs.FieldsLaws.{quad_first, quad_second, quad_third, quad_fourth}
use Rattle.flight.proofs.CodesLaws.{mode_code_law, mode_back, module_code_law, module_back}
use Rattle.flight.proofs.SavingLaws.{mode_in_range_law, sixteen, front_bytes, before_modules_bytes, length_front, length_ends, length_masks}

module _ (bytes : List ℕ) where
  length_in : length (modules_in bytes) ≡ module_count
  unfolding modules_in
  length_in = length_each (λ i m. module_from (pair_at (modules_place + 2 * i) bytes)) (replicate module_count blank)

  module_in : (i : ℕ) → i < module_count → get_or (modules_in bytes) i blank ≡ module_from (pair_at (modules_place + 2 * i) bytes)
  unfolding modules_in
  module_in i low = at_each (λ i m. module_from (pair_at (modules_place + 2 * i) bytes)) (replicate module_count blank) i blank low

-- modules made one by one, each of what stands at its place
module _ {F : Type 0} (bytes : List ℕ) (g : Mut F (ℕ × Unit {0}) Module) (f : F)
    (one : (i : ℕ) (m : Module) (f' : F) → Called g f (i, tt) m f' → (m ≡ module_from (pair_at (modules_place + 2 * i) bytes)) × (f' ≡ f)) where
  made_from :
      (ms : List Module) (f' : F) (i n : ℕ) → f' ≡ f → IsFromFnResultFrom g f' ms i n → (k : ℕ) → k < n →
      get_or ms (i + k) blank ≡ module_from (pair_at (modules_place + 2 * (i + k)) bytes)
  made_from ms f' i zero e made k h = absurd (not-suc-le-zero h)
  made_from ms f' i (suc n) e made zero h =
      rw (add-zero i) (made.2.1 blank ∙ (one i made.1 made.0 (subst (λ (y : F). Called g y (i, tt) made.1 made.0) e made.3)).0)
  made_from ms f' i (suc n) e made (suc k) h =
      let same = (one i made.1 made.0 (subst (λ (y : F). Called g y (i, tt) made.1 made.0) e made.3)).1 in
      let next : i + suc k ≡ i + 1 + k = omega arith in
      rw next (made_from ms made.0 (i + 1) n same made.4 k (le_of_suc-le-suc h))

  pub modules_made : (ms : List Module) → IsFromFnResult g f ms module_count → ms ≡ modules_in bytes
  modules_made ms made =
      ext_get_or blank ms (modules_in bytes) (made.long ∙ sym (length_in bytes))
      (λ i h. rw (zero-add i) at (made_from ms f 0 module_count refl made.each i (omega (arith, made.long))) ∙ sym (module_in bytes i (omega (arith, made.long))))

-- what the fields of a saved state say

-- bytes in front of a number's move its place
pair_shift : (front bytes : List ℕ) (at : ℕ) → pair_at (length front + at) (front ++ bytes) ≡ pair_at at bytes
pair_shift front bytes at = simp (add_assoc, get_or-append-add)

quad_shift : (front bytes : List ℕ) (at : ℕ) → quad_at (length front + at) (front ++ bytes) ≡ quad_at at bytes
quad_shift front bytes at = simp (add_assoc, get_or-append-add)

module_of : (ms : List Module) (i : ℕ) → i < length ms → T (modules_in_range ms) → module_from (pair_at (2 * i) (modules_bytes ms)) ≡ get_or ms i blank
unfolding modules_bytes modules_in_range
module_of [] i h r = absurd (not-suc-le-zero h)
module_of (m ∷ ms) zero h r = ap module_from (pair_back (module_code m)) ∙ module_back m (and_left (power_in_range m.power) (modules_in_range ms) r)
module_of (m ∷ ms) (suc i) h r =
    let e : 2 * suc i ≡ 2 + 2 * i = omega arith in
    rw e (ap module_from (pair_shift (pair_bytes (module_code m)) (modules_bytes ms) (2 * i)))
    ∙ module_of ms i (le_of_suc-le-suc h) (and_right (power_in_range m.power) (modules_in_range ms) r)

module _ (s : State) (e : in_range s ≡ true) where
  modules_back : Eight s → modules_in (saved s) ≡ s.modules
  unfolding saved
  modules_back eight =
      let n = length_in (saved s) in
      ext_get_or blank (modules_in (saved s)) s.modules (n ∙ sym eight)
      (λ i h. module_in (saved s) i (omega arith)
      ∙ ap (λ at. module_from (pair_at (at + 2 * i) (saved s))) (sym (length_masks s e))
      ∙ ap module_from (pair_shift (before_modules_bytes s) (modules_bytes s.modules) (2 * i))
      ∙ module_of s.modules i (omega arith) (parts s (holds (in_range s) e)).modules)

  -- the mask that stands k past the first
  mask_back : (k : ℕ) → byte_at (masks_place + k) (saved s) ≡ byte_at k (masks_bytes s.masks ++ modules_bytes s.modules)
  unfolding saved
  mask_back k =
      ap (λ at. byte_at (at + k) (saved s)) (sym (length_ends s e))
      ∙ ap (byte_at (length (front_bytes s ++ ends_bytes s.ends) + k)) (append_assoc (front_bytes s ++ ends_bytes s.ends) (masks_bytes s.masks) (modules_bytes s.modules))
      ∙ get_or-append-add (front_bytes s ++ ends_bytes s.ends) (masks_bytes s.masks ++ modules_bytes s.modules) k 0

  masks_back : masks_in (saved s) ≡ s.masks
  unfolding masks_in masks_bytes
  masks_back = simp (mask_back 0, mask_back 1, mask_back 2)

  -- the end whose bytes stand k past the first's
  end_back : (k : ℕ) → quad_at (ends_place + k) (saved s) ≡ quad_at k (ends_bytes s.ends ++ (masks_bytes s.masks ++ modules_bytes s.modules))
  unfolding saved
  end_back k =
      let rest = masks_bytes s.masks ++ modules_bytes s.modules in
      ap (λ at. quad_at (at + k) (saved s)) (sym (length_front s e))
      ∙ ap (quad_at (length (front_bytes s) + k))
      (append_assoc (front_bytes s ++ ends_bytes s.ends) (masks_bytes s.masks) (modules_bytes s.modules) ∙ append_assoc (front_bytes s) (ends_bytes s.ends) rest)
      ∙ quad_shift (front_bytes s) (ends_bytes s.ends ++ rest) k

  ends_back : ends_in (saved s) ≡ s.ends
  unfolding ends_in ends_bytes
  ends_back = simp (end_back 0, end_back 4, end_back 8, end_back 12, quad_back)

  message_back : message_in (saved s) ≡ s.message
  unfolding message_in saved head_bytes message_bytes
  message_back =
      let text = s.message.text in
      let ends = ends_bytes s.ends in
      let masks = masks_bytes s.masks in
      let long : longest_greeting ≤ length (text ++ ends) = rw (length-append text ends) (omega (arith, sixteen s e)) in
      let longer : longest_greeting ≤ length (text ++ ends ++ masks) = rw (length-append (text ++ ends) masks) (omega (arith, long)) in
      let back : take longest_greeting (drop text_place (saved s)) ≡ text =
      take-append-le longest_greeting (text ++ ends ++ masks) (modules_bytes s.modules) longer
      ∙ take-append-le longest_greeting (text ++ ends) masks long
      ∙ take_at text ends longest_greeting (sixteen s e) in
      simp back

  pub decoded_saved : Eight s → decoded (saved s) ≡ s
  unfolding decoded saved head_bytes
  decoded_saved eight =
      simp (modules_back eight, masks_back, ends_back, message_back, pair_back, triple_back, flag_back, mode_back s.watch.mode (mode_in_range_law s e))

-- what the fields of an image say saves to that image

-- what has the layout
pub record Layout (bytes : List ℕ) : Type 0 where
  pub size : length bytes ≡ image_bytes
  pub version : byte_at 0 bytes ≡ layout_version
  pub antennas : byte_at 7 bytes ≤ 1

pub layout : (bytes : List ℕ) → has_layout bytes ≡ true → Layout bytes
unfolding has_layout
layout bytes e =
    let t = holds _ e in
    record {
      size = eqb→eq (length bytes) image_bytes (search (and_left, and_right));
      version = eqb→eq (byte_at 0 bytes) layout_version (search (and_left, and_right));
      antennas = leb→le (byte_at 7 bytes) 1 (search (and_left, and_right));
    }

-- n bytes from k on, one by one
listed : (n k : ℕ) → List ℕ → List ℕ
listed zero k bytes = []
listed (suc n) k bytes = byte_at k bytes ∷ listed n (suc k) bytes

part_listed : (n k : ℕ) (bytes : List ℕ) → k + n ≤ length bytes → take n (drop k bytes) ≡ listed n k bytes
unfolding listed
part_listed zero k bytes h = refl
part_listed (suc n) k bytes h = rw (drop-cons bytes k 0 (omega arith)) (ap (λ l. byte_at k bytes ∷ l) (part_listed n (suc k) bytes (omega arith)))

module _ (bytes : List ℕ) (small : AllBytes bytes) where
  head_stored : Layout bytes → head_bytes (decoded bytes) ≡ listed message_place 0 bytes
  unfolding head_bytes decoded listed
  head_stored l =
      simp (
        mode_code_law,
        triple_low bytes small 1,
        triple_middle bytes small 1,
        triple_high bytes small 1,
        pair_low bytes small,
        pair_high bytes small,
        flag_stored (byte_at 7 bytes) l.antennas,
        l.version,
      )

  message_stored : Layout bytes → message_bytes (message_in bytes) ≡ listed 18 message_place bytes
  unfolding message_bytes message_in listed
  message_stored l = ap (λ text. byte_at message_place bytes ∷ byte_at (message_place + 1) bytes ∷ text) (part_listed longest_greeting text_place bytes (omega (arith, l.size)))

  ends_stored : ends_bytes (ends_in bytes) ≡ listed 16 ends_place bytes
  unfolding ends_bytes ends_in listed
  ends_stored = simp (quad_first bytes small, quad_second bytes small, quad_third bytes small, quad_fourth bytes small)

  masks_stored : masks_bytes (masks_in bytes) ≡ listed 3 masks_place bytes
  unfolding masks_bytes masks_in listed
  masks_stored = refl

  modules_stored :
      (n k : ℕ) →
      modules_bytes (each_from (λ i m. module_from (pair_at (modules_place + 2 * i) bytes)) k (replicate n blank)) ≡ listed (2 * n) (modules_place + 2 * k) bytes
  unfolding modules_bytes each_from listed
  modules_stored zero k = refl
  modules_stored (suc n) k =
      let at = modules_place + 2 * k in
      let twice : 2 * suc n ≡ suc (suc (2 * n)) = omega arith in
      let next : modules_place + 2 * suc k ≡ suc (suc at) = omega arith in
      rw (twice, module_code_law (pair_at at bytes) (pair_small bytes small at), pair_low bytes small at, pair_high bytes small at, add-one at)
      (ap (λ l. byte_at at bytes ∷ byte_at (suc at) bytes ∷ l) (modules_stored n (suc k) ∙ ap (λ p. listed (2 * n) p bytes) next))

  pub saved_decoded : Layout bytes → saved (decoded bytes) ≡ bytes
  unfolding saved decoded modules_in each listed
  saved_decoded l =
      let size = l.size in
      let whole : bytes ≡ listed image_bytes 0 bytes = sym (take_all image_bytes bytes (omega arith)) ∙ part_listed image_bytes 0 bytes (omega arith) in
      rw (head_stored l, message_stored l, ends_stored, masks_stored, modules_stored module_count 0) (sym whole)
