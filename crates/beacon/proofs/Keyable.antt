-- Every beacon text that a state in range has is one that keying takes: none of the refusals 11 to 13 applies.
-- Assumes nothing.
use mathlib.Core.Path.{◌≡◌, refl}
use mathlib.Core.Bool.{Bool, true, false, not, ◌&&◌, ◌||◌}
use mathlib.Core.List.{List, ◌∷◌, ◌++◌}
use Prim.Native.Nat.{ℕ, ◌/◌, ◌%◌, ◌<◌, ◌≤◌}
use native.Mathlib.Omega.{arith}
use lib.Dec.{T, eqb, ltb, ltb→lt}
use Rattle.std.specs.Prelude.{Ok}
use lib.ListN.{length, take}
use lib.Seq.{length-take-le}
use borrow.Author.Tests.{not-true, eqb-true}
use Rattle.basics.proofs.ChoiceLaws.{is_true, holds, and_left, and_right, within_high}
use Rattle.basics.proofs.TablesLaws.{upto}
use Rattle.modules.specs.Groups.{module_count}
use Rattle.modules.specs.Power.{is_on, is_failed}
use Rattle.modules.specs.Masks.{mask_of, masks_of}
use Rattle.modules.specs.declared.power.Module.{Module}
use Rattle.modules.proofs.MasksLaws.{mask_of_bound}
use Rattle.frames.specs.Reading.{lowest_reading, highest_reading, is_reading, are_thresholds}
use Rattle.morse.specs.Signs.{alphabet, sign_of, signed}
use Rattle.morse.specs.Texts.{is_space, fault_of}
use Rattle.morse.proofs.TextsLaws.{fair, fairly, joined}
use Rattle.supervisor.proofs.MessageLaws.{message_fair}
use Rattle.supervisor.specs.Range.{battery_in_range, in_range}
use Rattle.supervisor.specs.declared.state.Battery.{Battery}
use Rattle.supervisor.proofs.RangeLaws.{parts}
use Rattle.supervisor.proofs.ModuleLaws.{Eight}
use Rattle.supervisor.specs.declared.state.Mode.{Mode}
use Rattle.supervisor.specs.declared.state.Mode.TheVariants.{DeployWait, Recovery, Safe}
use Rattle.supervisor.specs.declared.state.State.{State}
use Rattle.basics.specs.Bytes.{hex_digit, space}
use Rattle.beacon.specs.Text.{mode_letter, figure, basic_text, complete_text, extended_text, text_of, has_text}
use Rattle.beacon.proofs.TextLaws.{complete_length}
use Rattle.supervisor.specs.declared.form.Form.{Form}
use Rattle.supervisor.specs.declared.form.Form.TheVariants.{Basic, Complete, Extended}

-- a byte with a sign, and no space
record Plain (c : ℕ) : Type 0 where
  word : is_space c ≡ false
  sign : signed (sign_of c) ≡ true

-- the same, as a test
abbrev is_plain : ℕ → Bool
is_plain c = not (is_space c) && signed (sign_of c)

plain : (c : ℕ) → T (is_plain c) → Plain c
plain c t =
    record {
      word = not-true (is_space c) (is_true (not (is_space c)) (and_left (not (is_space c)) (signed (sign_of c)) t));
      sign = is_true (signed (sign_of c)) (and_right (not (is_space c)) (signed (sign_of c)) t);
    }

plain_figure : (n : ℕ) → n < 10 → Plain (figure n)
unfolding alphabet sign_of
plain_figure n h = plain (figure n) (upto (λ n. is_plain (figure n)) 10 tt n h)

plain_hex : (n : ℕ) → n < 16 → Plain (hex_digit n)
unfolding alphabet sign_of
plain_hex n h = plain (hex_digit n) (upto (λ n. is_plain (hex_digit n)) 16 tt n h)

plain_mode : (m : Mode) → Plain (mode_letter m)
unfolding alphabet sign_of
plain_mode (DeployWait phase) = plain 68 tt
plain_mode Recovery = plain 82 tt
plain_mode Safe = plain 83 tt

-- a mask of eight modules has two hex digits
mask_byte : (test : Module → Bool) (modules : List Module) → length modules ≡ module_count → mask_of test modules < 256
mask_byte test modules eight = rw eight at (mask_of_bound test modules)

-- a tension in range: none yet, or a reading
tension_most : (b : Battery) → T (battery_in_range b) → b.tension ≤ highest_reading
tension_most b t = by_reading (eqb b.tension 0) refl (and_left (eqb b.tension 0 || is_reading b.tension) (are_thresholds b.ascend b.descend) t)
  where
    by_reading : (none : Bool) → eqb b.tension 0 ≡ none → T (none || is_reading b.tension) → b.tension ≤ highest_reading
    by_reading true z h = omega (arith, eqb-true b.tension 0 z)
    by_reading false z h = within_high lowest_reading highest_reading b.tension h

module _ (s : State) (e : in_range s ≡ true) (eight : Eight s) where
  both : (fault_of (basic_text s) ≡ Ok tt) × (fault_of (complete_text s) ≡ Ok tt)
  unfolding alphabet sign_of fault_of basic_text complete_text masks_of
  both =
      let tension = tension_most s.battery (parts s (holds (in_range s) e)).battery in
      let on = mask_byte (λ m. is_on m.power) s.modules eight in
      let failed = mask_byte (λ m. is_failed m.power) s.modules eight in
      let m = plain_mode s.watch.mode in
      let a = plain_figure (s.battery.tension / 1000) (omega arith) in
      let b = plain_figure (s.battery.tension / 100 % 10) (omega arith) in
      let c = plain_figure (s.battery.tension / 10 % 10) (omega arith) in
      let d = plain_figure (s.battery.tension % 10) (omega arith) in
      let f = plain_hex ((masks_of s.modules).on / 16) (omega arith) in
      let g = plain_hex ((masks_of s.modules).on % 16) (omega arith) in
      let h = plain_hex ((masks_of s.modules).failed / 16) (omega arith) in
      let i = plain_hex ((masks_of s.modules).failed % 16) (omega arith) in
      simp (
        m.word,
        m.sign,
        a.word,
        a.sign,
        b.word,
        b.sign,
        c.word,
        c.sign,
        d.word,
        d.sign,
        f.word,
        f.sign,
        g.word,
        g.sign,
        h.word,
        h.sign,
        i.word,
        i.sign,
      ) (refl, refl)

  -- the complete text, a space, and a message that is kept
  extended : T (ltb 0 s.message.length) → fault_of (extended_text s) ≡ Ok tt
  unfolding extended_text
  extended kept =
      let limits = message_fair s (holds (in_range s) e) in
      let message = take s.message.length s.message.text in
      let long : length message ≡ s.message.length = length-take-le s.message.length s.message.text (omega (arith, limits.sixteen, limits.most)) in
      fairly (complete_text s ++ (space ∷ message))
      (joined (complete_text s) message (fair (complete_text s) both.1) (fair message limits.keyable)
      (omega (arith, complete_length s)) (omega (arith, long, ltb→lt 0 s.message.length kept))
      (omega (arith, complete_length s, long, limits.most)))

  pub keyable : (form : Form) → T (has_text form s.message.length) → fault_of (text_of form s) ≡ Ok tt
  keyable Basic had = both.0
  keyable Complete had = both.1
  keyable Extended had = extended had
