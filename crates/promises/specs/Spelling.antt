-- Which texts may be keyed, over the alphabet as a list of rows: those are keyed and no others, each keying reads back to
-- its text and to no other; and what is sure to be answered 12 and 15.
-- Assumes nothing.
use Rattle.std.specs.Prelude.{ℕ, ◌≤◌, ◌≡◌, false, List, [], ◌∷◌, ◌⊎◌, Result, Ok, Err, length}
use Rattle.basics.specs.Bytes.{space}
use Rattle.basics.specs.Outcome.{Outcome, outcome, written}
use Rattle.morse.specs.Signs.{Row, alphabet}
use Rattle.morse.specs.Texts.{longest, badly_spaced}
use Rattle.morse.specs.Units.{units_of}
use Rattle.morse.specs.Keying.{key_of}
use Rattle.morse.specs.declared.keying.KeyFault.TheVariants.{Text}
use Rattle.morse.specs.declared.texts.Fault.TheVariants.{NotKeyable}
use Rattle.hearing.specs.Reading.{Read}
use Rattle.hearing.specs.declared.reading.ReadFault.{ReadFault}
use Rattle.hearing.specs.declared.reading.ReadFault.TheVariants.{NotAKeying}

-- a byte is that of one of the rows
abbrev pub Has : List Row → (byte : ℕ) → Type 0
Has [] c = ⊥
Has (r ∷ rs) c = (c ≡ r.byte) ⊎ Has rs c

-- each byte of a text is a space, or that of one of the rows
abbrev pub Spelt : List Row → (text : List ℕ) → Type 0
Spelt rows [] = Unit
Spelt rows (c ∷ t) = ((c ≡ space) ⊎ Has rows c) × Spelt rows t

-- a text over some rows: up to 64 such bytes, with single inner spaces
pub record TextOver (rows : List Row) (text : List ℕ) : Type 0 where
  pub short : length text ≤ longest
  pub spelt : Spelt rows text
  pub spaced : badly_spaced text ≡ false

-- a text over some rows is keyed, with room for its units
abbrev pub KeyedOver : List Row → Type 0
KeyedOver rows =
    (text room : List ℕ) → TextOver rows text → length (units_of text) ≤ length room →
    key_of text room ≡ outcome (Ok (length (units_of text))) (written (units_of text) room)

-- what is keyed is a text over them
abbrev pub OnlyOver : List Row → Type 0
OnlyOver rows = (text room later : List ℕ) (n : ℕ) → key_of text room ≡ outcome (Ok n) later → TextOver rows text

-- 12 for a text that is not too long, and has a byte that is no space and in no row
abbrev pub TwelveOver : List Row → Type 0
TwelveOver rows =
    (text room : List ℕ) → length text ≤ longest → (Spelt rows text → ⊥) → key_of text room ≡ outcome (Err (Text NotKeyable)) room

-- the units of a text over them are read back, with room for the text
abbrev pub ReadOver : List Row → Type 0
ReadOver rows =
    (text room : List ℕ) (after : Outcome (Result ℕ ReadFault)) → TextOver rows text → Read (units_of text) room after →
    length text ≤ length room → after ≡ outcome (Ok (length text)) (written text room)

-- two texts over them with the same keying are the same
abbrev pub OneTextOver : List Row → Type 0
OneTextOver rows = (s t : List ℕ) → TextOver rows s → TextOver rows t → units_of s ≡ units_of t → s ≡ t

-- 15 for units that are the keying of no text over them
abbrev pub FifteenOver : List Row → Type 0
FifteenOver rows =
    (units room : List ℕ) (after : Outcome (Result ℕ ReadFault)) → Read units room after →
    ((text : List ℕ) → TextOver rows text → units_of text ≡ units → ⊥) → after ≡ outcome (Err NotAKeying) room

-- all of it, over the alphabet
pub record Spelling : Type 0 where
  pub keyed : KeyedOver alphabet
  pub only : OnlyOver alphabet
  pub twelve : TwelveOver alphabet
  pub back : ReadOver alphabet
  pub one : OneTextOver alphabet
  pub fifteen : FifteenOver alphabet
