-- Laws of the texts: how long each is, and that each is a front of what the code makes.
-- Assumes nothing.
use Prim.Native.Nat.{ℕ, suc, ◌+◌, ◌≤◌}
use mathlib.Core.Path.{◌≡◌, refl, ap, ◌∙◌}
use mathlib.Core.List.{List, [], ◌∷◌, ◌++◌, append-nil, append_assoc}
use native.Mathlib.Omega.{arith}
use lib.Dec.{lit≤}
use lib.ListN.{length, take, drop, replicate, length-append}
use lib.Seq.{length-take-le, take-length, take-append-add, drop-append-add}
use Rattle.basics.specs.Bytes.{space}
use Rattle.frames.specs.Greeting.{longest_greeting}
use Rattle.frames.proofs.GreetingLaws.{Fair}
use Rattle.supervisor.specs.declared.state.State.{State}
use Rattle.beacon.specs.Text.{basic_text, complete_text, extended_text, text_of, full_text, complete_bytes, most_bytes, form_bytes}
use Rattle.supervisor.specs.declared.form.Form.{Form}
use Rattle.supervisor.specs.declared.form.Form.TheVariants.{Basic, Complete, Extended}

-- no text is longer than what the code makes
pub form_most : (form : Form) (n : ℕ) → n ≤ longest_greeting → form_bytes form n ≤ most_bytes
form_most Basic n h = lit≤ tt
form_most Complete n h = lit≤ tt
form_most Extended n h = omega arith

module _ (s : State) where
  pub complete_length : length (complete_text s) ≡ complete_bytes
  unfolding basic_text complete_text
  complete_length = refl

  module _ (fair : Fair s.message.length s.message.text) where
    pub text_length : (form : Form) → length (text_of form s) ≡ form_bytes form s.message.length
    unfolding basic_text complete_text extended_text
    text_length Basic = refl
    text_length Complete = refl
    text_length Extended =
        length-append (complete_text s) (space ∷ take s.message.length s.message.text)
        ∙ rw (length-take-le s.message.length s.message.text (omega (arith, fair.sixteen, fair.most))) (omega (arith, complete_length))

    pub text_front : (form : Form) → take (form_bytes form s.message.length) (full_text s) ≡ text_of form s
    unfolding basic_text complete_text extended_text
    text_front Basic = refl
    text_front Complete = refl
    text_front Extended =
        let n : ℕ = s.message.length in
        let place : form_bytes Extended n ≡ length (complete_text s) + suc n = omega (arith, complete_length) in
        ap (λ k. take k (full_text s)) place ∙ take-append-add (complete_text s) (space ∷ s.message.text) (suc n)

-- what the code makes: the complete text copied into a room of spaces, and then the message, from one past it on
module _ (complete message : List ℕ) (whole : length complete ≡ complete_bytes) (sixteen : length message ≡ longest_greeting) where
  abbrev first : List ℕ
  first = take (length complete) complete ++ drop (length complete) (replicate most_bytes space)

  first_made : first ≡ complete ++ replicate 17 space
  first_made = rw (take-length complete, whole)

  seventeen : 17 ≡ length complete + 1
  seventeen = omega (arith, whole)

  past_made : drop 17 first ≡ replicate longest_greeting space
  past_made =
      ap (drop 17) first_made
      ∙ ap (λ n. drop n (complete ++ replicate 17 space)) seventeen
      ∙ drop-append-add complete (replicate 17 space) 1

  front_made : take 17 first ≡ complete ++ (space ∷ [])
  front_made =
      ap (take 17) first_made
      ∙ ap (λ n. take n (complete ++ replicate 17 space)) seventeen
      ∙ take-append-add complete (replicate 17 space) 1

  pub message_copied :
      take 17 first
      ++ ((take (length message) message ++ drop (length message) (take longest_greeting (drop 17 first))) ++ drop longest_greeting (drop 17 first))
      ≡ complete ++ (space ∷ message)
  message_copied =
      rw (past_made, front_made, take-length message, sixteen)
      (ap (λ later. (complete ++ (space ∷ [])) ++ later) (append-nil (message ++ []) ∙ append-nil message) ∙ append_assoc complete (space ∷ []) message)
