-- The beacon's text, of a state.
-- Assumes nothing.
use Rattle.std.specs.Prelude.{ℕ, ◌+◌, ◌/◌, ◌%◌, Bool, true, List, [], ◌∷◌, ◌++◌, take}
use Rattle.basics.specs.Bytes.{two_hex, space}
use Rattle.modules.specs.Masks.{masks_of}
use Rattle.supervisor.specs.Message.{is_kept}
use Rattle.supervisor.specs.declared.state.Mode.{Mode}
use Rattle.supervisor.specs.declared.state.Mode.TheVariants.{DeployWait, Recovery, Safe}
use Rattle.supervisor.specs.declared.state.State.{State}
use Rattle.supervisor.specs.declared.form.Form.{Form}
use Rattle.supervisor.specs.declared.form.Form.TheVariants.{Basic, Complete, Extended}

-- `EMS `
abbrev pub call_sign : List ℕ
call_sign = 69 ∷ 77 ∷ 83 ∷ space ∷ []

-- a letter D, R or S for the mode
abbrev pub mode_letter : Mode → ℕ
mode_letter (DeployWait phase) = 68
mode_letter Recovery = 82
mode_letter Safe = 83

-- 0 to 9
abbrev pub figure : ℕ → ℕ
figure n = 48 + n

-- four digits
abbrev pub four_digits : ℕ → List ℕ
four_digits n = figure (n / 1000) ∷ figure (n / 100 % 10) ∷ figure (n / 10 % 10) ∷ figure (n % 10) ∷ []

-- basic: `EMS `, the mode's letter, a space, the tension in four digits
unfoldable pub basic_text : State → List ℕ
basic_text s = call_sign ++ (mode_letter s.watch.mode ∷ space ∷ four_digits s.battery.tension)

-- a space, and a mask in two hex digits
abbrev mask_text : ℕ → List ℕ
mask_text mask = space ∷ two_hex mask

-- complete: that, then a space and the on mask, a space and the failed mask
unfoldable pub complete_text : State → List ℕ
complete_text s = basic_text s ++ (mask_text (masks_of s.modules).on ++ mask_text (masks_of s.modules).failed)

-- the message, character by character
abbrev pub message_text : State → List ℕ
message_text s = take s.message.length s.message.text

-- extended: the complete text, a space and the message
unfoldable pub extended_text : State → List ℕ
extended_text s = complete_text s ++ (space ∷ message_text s)

-- the text of each form
abbrev pub text_of : Form → State → List ℕ
text_of Basic s = basic_text s
text_of Complete s = complete_text s
text_of Extended s = extended_text s

-- whether there is one, by the message's length: an extended one where a message is kept
abbrev pub has_text : Form → (length : ℕ) → Bool
has_text Basic length = true
has_text Complete length = true
has_text Extended length = is_kept length

-- the bytes of the basic text
abbrev pub basic_bytes : ℕ
basic_bytes = 10

-- the bytes of the complete text
abbrev pub complete_bytes : ℕ
complete_bytes = 16

-- the most bytes of the extended text
abbrev pub most_bytes : ℕ
most_bytes = 33

-- each text's bytes, by the message's length: 10, 16, or 17 and the message
abbrev pub form_bytes : Form → (length : ℕ) → ℕ
form_bytes Basic length = basic_bytes
form_bytes Complete length = complete_bytes
form_bytes Extended length = complete_bytes + 1 + length

-- what the code makes: the complete text, a space and all bytes of the message, of which each text is the front
abbrev pub full_text : State → List ℕ
full_text s = complete_text s ++ (space ∷ s.message.text)
