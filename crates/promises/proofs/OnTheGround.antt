-- Heard on the ground, proved: every beacon text can be keyed, no two texts have one keying, and the text has each digit in its place.
-- Assumes nothing.
use Prim.Native.Nat.{ℕ, ◌+◌, ◌-◌, ◌/◌, ◌%◌, ◌≤◌, ◌<◌}
use native.Mathlib.Omega.{arith}
use mathlib.Core.Path.{◌≡◌, refl, sym, ap, ◌∙◌}
use mathlib.Core.Bool.{Bool, false}
use mathlib.Core.List.{List}
use lib.Dec.{ltb, eqb, lit≤}
use lib.ListN.{length, get_or, take, drop}
use borrow.Author.Tests.{le-ltb, lt-ltb, ltb-true, ltb-false}
use Rattle.basics.specs.Choice.{when◌then◌else◌}
use Rattle.basics.specs.Bytes.{hex_digit}
use Rattle.basics.proofs.ChoiceLaws.{is_true, decided}
use Rattle.modules.specs.Masks.{mask_of, masks_of}
use Rattle.modules.specs.Power.{is_on, is_failed}
use Rattle.modules.specs.declared.power.Module.{Module}
use Rattle.modules.proofs.MasksLaws.{mask_of_bound}
use Rattle.supervisor.specs.Range.{in_range}
use Rattle.supervisor.specs.State.{mode_number}
use Rattle.supervisor.specs.declared.state.Mode.{Mode}
use Rattle.supervisor.specs.declared.state.Mode.TheVariants.{DeployWait, Recovery, Safe}
use Rattle.supervisor.specs.declared.state.State.{State}
use Rattle.supervisor.proofs.MessageLaws.{message_fair}
use Rattle.frames.specs.Greeting.{longest_greeting}
use Rattle.morse.specs.Units.{units_of}
use Rattle.morse.specs.Texts.{fault_of}
use Rattle.morse.proofs.KeyingLaws.{keyed_within}
use Rattle.hearing.specs.Reading.{read_text}
use Rattle.std.specs.Prelude.{Ok}
use Rattle.hearing.proofs.ReadBack.{same_keying}
use Rattle.beacon.specs.Text.{basic_text, complete_text, message_text, extended_text, text_of, has_text, form_bytes}
use Rattle.beacon.specs.Text.{mode_letter, figure}
use Rattle.beacon.specs.Writing.{beacon_of}
use Rattle.supervisor.specs.declared.form.Form.{Form}
use Rattle.supervisor.specs.declared.form.Form.TheVariants.{Basic, Complete, Extended}
use Rattle.beacon.proofs.Keyable.{keyable}
use Rattle.beacon.proofs.TextLaws.{form_most, text_length}
use Rattle.promises.specs.OnTheGround.{OnTheGround, Whole, Has, HeardWith, sound}

-- a text of any form can be keyed
fair : (form : Form) (s : State) → Whole s → Has form s → fault_of (text_of form s) ≡ Ok tt
fair form s w had = keyable s (is_true (in_range s) w.valid) w.eight form had

module _ (form : Form) (bytes : ℕ) (enough : (n : ℕ) → n ≤ longest_greeting → form_bytes form n ≤ bytes) where
  text_fits : (s : State) → Whole s → (room : List ℕ) → bytes ≤ length room → ltb (length room) (length (text_of form s)) ≡ false
  text_fits s w room h =
      le-ltb (length room) (length (text_of form s)) (omega (arith, enough s.message.length (message_fair s w.valid).most, text_length s (message_fair s w.valid) form))

  heard : HeardWith form bytes
  unfolding beacon_of read_text
  heard s w had page air ground p q r =
      record {
        text = text_of form s;
        wrote = rw (is_true (in_range s) w.valid, is_true (has_text form s.message.length) had, text_fits s w page p);
        units = sound form s;
        keyed = keyed_within (text_of form s) air (fair form s w had) q;
        heard = λ after reads. reads.told (text_of form s) (record { passes = fair form s w had; same = refl }) ∙ rw (text_fits s w ground r);
      }

-- back from a letter to its mode, from a hex digit to its number
mode_of : ℕ → ℕ
mode_of letter = when eqb letter 68 then 0 else when eqb letter 82 then 1 else 2

mode_letter_law : (m : Mode) → mode_of (mode_letter m) ≡ mode_number m
unfolding mode_of
mode_letter_law (DeployWait phase) = refl
mode_letter_law Recovery = refl
mode_letter_law Safe = refl

number_of : ℕ → ℕ
number_of digit = when ltb digit 65 then digit - 48 else digit - 55

hex_digit_law : (n : ℕ) → n < 16 → number_of (hex_digit n) ≡ n
unfolding number_of
hex_digit_law n h =
    decided (λ (d : ℕ). number_of d ≡ n) (ltb n 10)
    (λ e. rw (lt-ltb (48 + n) 65 (omega (arith, ltb-true n 10 e))) (omega arith))
    (λ e. rw (le-ltb (65 + (n - 10)) 65 (omega arith)) (omega (arith, ltb-false n 10 e)))

-- a mask of eight modules has two hex digits
mask_byte : (test : Module → Bool) (s : State) → Whole s → mask_of test s.modules < 256
mask_byte test s w = rw w.eight at (mask_of_bound test s.modules)

two_digits : (m n : ℕ) → m < 256 → n < 256 → hex_digit (m / 16) ≡ hex_digit (n / 16) → hex_digit (m % 16) ≡ hex_digit (n % 16) → m ≡ n
two_digits m n h k e f =
    let high : m / 16 ≡ n / 16 = sym (hex_digit_law (m / 16) (omega arith)) ∙ ap number_of e ∙ hex_digit_law (n / 16) (omega arith) in
    let low : m % 16 ≡ n % 16 = sym (hex_digit_law (m % 16) (omega arith)) ∙ ap number_of f ∙ hex_digit_law (n % 16) (omega arith) in
    omega arith

-- four decimal digits, one after the other
one_more_law : (m n : ℕ) → m / 10 ≡ n / 10 → m % 10 ≡ n % 10 → m ≡ n
one_more_law m n e f = omega arith

hundreds : (n : ℕ) → n / 100 / 10 ≡ n / 1000
hundreds n = omega arith

tens : (n : ℕ) → n / 10 / 10 ≡ n / 100
tens n = omega arith

four_digits_law :
    (m n : ℕ) → figure (m / 1000) ≡ figure (n / 1000) → figure (m / 100 % 10) ≡ figure (n / 100 % 10) → figure (m / 10 % 10) ≡ figure (n / 10 % 10) →
    figure (m % 10) ≡ figure (n % 10) → m ≡ n
four_digits_law m n e f g h =
    one_more_law m n
    (one_more_law (m / 10) (n / 10)
    (rw (tens m, tens n) (one_more_law (m / 100) (n / 100) (rw (hundreds m, hundreds n) (omega (arith, e))) (omega (arith, f)))) (omega (arith, g))) (omega (arith, h))

-- two states whose complete beacons sound alike
module _ (s t : State) (w : Whole s) (v : Whole t) (alike : sound Complete s ≡ sound Complete t) where
  same_byte : (i : ℕ) → get_or (complete_text s) i 0 ≡ get_or (complete_text t) i 0
  same_byte i = ap (λ (bytes : List ℕ). get_or bytes i 0) (same_keying (complete_text s) (complete_text t) (fair Complete s w tt) (fair Complete t v tt) alike)

  same_mode : mode_number s.watch.mode ≡ mode_number t.watch.mode
  unfolding complete_text basic_text
  same_mode = sym (mode_letter_law s.watch.mode) ∙ ap mode_of (same_byte 4) ∙ mode_letter_law t.watch.mode

  same_tension : s.battery.tension ≡ t.battery.tension
  unfolding complete_text basic_text
  same_tension = four_digits_law s.battery.tension t.battery.tension (same_byte 6) (same_byte 7) (same_byte 8) (same_byte 9)

  same_on : (masks_of s.modules).on ≡ (masks_of t.modules).on
  unfolding complete_text basic_text masks_of
  same_on = two_digits _ _ (mask_byte (λ m. is_on m.power) s w) (mask_byte (λ m. is_on m.power) t v) (same_byte 11) (same_byte 12)

  same_failed : (masks_of s.modules).failed ≡ (masks_of t.modules).failed
  unfolding complete_text basic_text masks_of
  same_failed = two_digits _ _ (mask_byte (λ m. is_failed m.power) s w) (mask_byte (λ m. is_failed m.power) t v) (same_byte 14) (same_byte 15)

-- two states whose extended beacons sound alike
module _ (s t : State) (w : Whole s) (v : Whole t) (had : Has Extended s) (had' : Has Extended t) (alike : sound Extended s ≡ sound Extended t) where
  same_text : extended_text s ≡ extended_text t
  same_text = same_keying (extended_text s) (extended_text t) (fair Extended s w had) (fair Extended t v had') alike

  -- what stands past the space, and what before it
  same_message : message_text s ≡ message_text t
  unfolding extended_text complete_text basic_text
  same_message = ap (drop 17) same_text

  same_complete : complete_text s ≡ complete_text t
  unfolding extended_text complete_text basic_text
  same_complete = ap (take 16) same_text

pub on_the_ground : OnTheGround
on_the_ground =
    record {
      basic = heard Basic 10 (λ n h. lit≤ tt);
      complete = heard Complete 16 (λ n h. lit≤ tt);
      extended = heard Extended 33 (form_most Extended);
      mode = λ s t w v had had' e. same_mode s t w v e;
      tension = λ s t w v had had' e. same_tension s t w v e;
      on = λ s t w v had had' e. same_on s t w v e;
      failed = λ s t w v had had' e. same_failed s t w v e;
      message = same_message;
      more = λ look tells s t w v had had' e. tells s t w v tt tt (ap units_of (same_complete s t w v had had' e));
    }
