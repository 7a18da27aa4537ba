-- Room for a keying: how much is set aside before the text is known, by how many characters it will have.
-- Assumes nothing.
use Rattle.std.specs.Prelude.{ℕ, ◌≤◌, ◌<◌, ◌≡◌, List, length, replicate}
use contract.Lifetimes.{Lfts}
use denote.Triple.Entry.{Args}
use denote.Triple.Clauses.{at_exit}
use Rattle.basics.specs.OneOutcome.{Leaves}
use Rattle.basics.specs.Outcome.{Reply, reply}
use Rattle.morse.specs.Answers.{done, no_room}
use Rattle.morse.specs.Signs.{first_figure}
use Rattle.morse.specs.Texts.{longest, fault_of, found_number}
use Rattle.morse.specs.Units.{units_for}
use Rattle.morse.specs.Keying.{key_reply, key_of}
use Rattle.flight.specs.contracts.calls.ems_key
use Rattle.flight.proofs.calls.ems_key.Reads as ems_key_reads

-- what keying a text into a room returns: the page's number, and the count
abbrev pub keying : (text room : List ℕ) → Reply
keying text room = key_reply (key_of text room).result

-- keying a text of n characters counts so many units at most
abbrev pub AtMost : (n units : ℕ) → Type 0
AtMost n units = (text room : List ℕ) → length text ≡ n → (keying text room).count ≤ units

-- a room of so many bytes is enough for a text of n characters: the number is the text's own, 0 or 11 to 13, and not 14
abbrev pub Enough : (n bytes : ℕ) → Type 0
Enough n bytes =
    (text room : List ℕ) → length text ≡ n → bytes ≤ length room →
    (keying text room).number ≡ found_number (fault_of text)

-- a text needs so many: with room for them they are counted, and with less the answer is 14
pub record Needs (text : List ℕ) (units : ℕ) : Type 0 where
  pub given : (room : List ℕ) → units ≤ length room → keying text room ≡ reply done units
  pub short : (room : List ℕ) → length room < units → keying text room ≡ reply no_room 0

-- n zeros
abbrev pub zeros : ℕ → List ℕ
zeros n = replicate n first_figure

-- what is so of the call that C makes, ems_key(text, units, count): of all that its contract, as the toolchain reads it
-- from the source, lets it return
abbrev pub OfEmsKey : (IsSo : (text room : List ℕ) → (returned : Reply) → Type 0) → Type 0
OfEmsKey IsSo =
    (κs : Lfts (ems_key.ended).signature.lifetimes) (a : Args (ems_key.ended).signature κs)
    (x : Leaves ems_key.ended κs a) →
    ems_key_reads.Learnt κs a x.0 (at_exit ems_key.ended κs a x.1) →
    IsSo a.0.now a.1.0.now (reply x.0 x.1.1.1.0)

-- all of it, and the first two of C's call
pub record KeyingRoom : Type 0 where
  pub most : (n : ℕ) → AtMost n (units_for n)
  pub enough : (n : ℕ) → Enough n (units_for n)
  pub reached : (n : ℕ) → n ≤ longest → Needs (zeros n) (units_for n)
  pub most_in_c : OfEmsKey (λ text room returned. returned.count ≤ units_for (length text))
  pub enough_in_c :
      OfEmsKey (λ text room returned. units_for (length text) ≤ length room → returned.number ≡ no_room → ⊥)
