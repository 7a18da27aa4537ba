-- Which texts may be keyed, a hair more: with a row for `;`, which the alphabet has not, and without its row for `/`.
-- Assumes nothing.
use Prim.Native.Nat.{ℕ, zero, suc}
use native.Mathlib.Omega.{arith}
use mathlib.Core.Path.{◌≡◌, refl, sym, ap}
use mathlib.Core.List.{List, [], ◌∷◌}
use mathlib.Core.Logic.{◌⊎◌, inl, inr}
use lib.Dec.{lit≤}
use lib.ListN.{length, take, replicate}
use Rattle.basics.specs.Bytes.{space}
use Rattle.basics.specs.Outcome.{Outcome}
use Rattle.morse.specs.Signs.{dot, dash, Row, row, alphabet, sign_of}
use Rattle.morse.specs.Texts.{fault_of}
use Rattle.morse.specs.Units.{units_of}
use Rattle.morse.specs.Keying.{key_units, key_of, key_reply}
use Rattle.std.specs.Prelude.{Result}
use Rattle.morse.specs.declared.keying.KeyFault.{KeyFault}
use Rattle.hearing.specs.Reading.{Keys, Read, read_text, read_reply}
use Rattle.hearing.specs.declared.reading.ReadFault.{ReadFault}
use Rattle.hearing.proofs.ReadBack.{same_keying}
use Rattle.promises.specs.Spelling.{Has, Spelt, TextOver, KeyedOver, OnlyOver, TwelveOver}
use Rattle.promises.specs.Spelling.{ReadOver, OneTextOver, FifteenOver}
use Rattle.promises.proofs.Spelling.{has_signed, passes}

-- what reading the units of a text must give
reads : (text room : List ℕ) → Keys text (units_of text) → Read (units_of text) room (read_text text room)
reads text room keys = record {
  told = λ t k. ap (λ (x : List ℕ). read_text x room) (same_keying text t keys.passes k.passes (sym k.same));
  refused = λ never. absurd (never text keys);
}

-- a row more: `;`, with a sign that no byte has
abbrev with_semicolon : List Row
with_semicolon = row 59 (dash ∷ dot ∷ dash ∷ dot ∷ dash ∷ dot ∷ []) ∷ alphabet

abbrev pub semicolon : List ℕ
semicolon = 59 ∷ []

semicolon_over : TextOver with_semicolon semicolon
semicolon_over = record { short = lit≤ tt; spelt = (inr (inl refl), tt); spaced = refl }

-- it is answered 12
pub not_keyed_with_a_row_more : KeyedOver with_semicolon → ⊥
unfolding alphabet sign_of fault_of units_of key_of
not_keyed_with_a_row_more says =
    let done : ◌≡◌ {A = ℕ} 12 0 =
    ap (λ (o : Outcome (Result ℕ KeyFault)). (key_reply o.result).number) (says semicolon [] semicolon_over (lit≤ tt)) in
    omega arith

-- it has no units, which are read as the empty text
pub not_read_with_a_row_more : ReadOver with_semicolon → ⊥
unfolding alphabet sign_of fault_of units_of read_text
not_read_with_a_row_more says =
    let after = read_text [] (0 ∷ []) in
    let nothing : Read (units_of semicolon) (0 ∷ []) after = reads [] (0 ∷ []) (record { passes = refl; same = refl }) in
    let long : ◌≡◌ {A = ℕ} 0 1 =
    ap (λ (o : Outcome (Result ℕ ReadFault)). (read_reply o.result).count)
    (says semicolon (0 ∷ []) after semicolon_over nothing (lit≤ tt)) in
    omega arith

-- neither has the empty text
pub not_one_with_a_row_more : OneTextOver with_semicolon → ⊥
unfolding alphabet sign_of units_of
not_one_with_a_row_more says =
    let same : ◌≡◌ {A = ℕ} 1 0 =
    ap length (says semicolon [] semicolon_over (record { short = lit≤ tt; spelt = tt; spaced = refl }) refl) in
    omega arith

-- a row fewer: the last, that of `/`
abbrev without_slash : List Row
without_slash = take 39 alphabet

abbrev pub slash : List ℕ
slash = 47 ∷ []

slash_not_spelt : Spelt without_slash slash → ⊥
unfolding alphabet
slash_not_spelt (inl e, t) = omega arith
slash_not_spelt (inr h, t) = has_signed without_slash tt 47 h

-- it is keyed all the same
pub not_only_with_a_row_fewer : OnlyOver without_slash → ⊥
unfolding alphabet sign_of fault_of units_of key_units key_of
not_only_with_a_row_fewer says = slash_not_spelt (says slash (replicate 13 0) (units_of slash) 13 refl).spelt

-- not answered 12
pub not_twelve_with_a_row_fewer : TwelveOver without_slash → ⊥
unfolding alphabet sign_of fault_of units_of key_units key_of
not_twelve_with_a_row_fewer says =
    let refused : ◌≡◌ {A = ℕ} 0 12 =
    ap (λ (o : Outcome (Result ℕ KeyFault)). (key_reply o.result).number)
    (says slash (replicate 13 0) (lit≤ tt) slash_not_spelt) in
    omega arith

-- what fewer rows spell, all spell
has_more : (n : ℕ) (rows : List Row) (c : ℕ) → Has (take n rows) c → Has rows c
has_more zero rows c h = absurd h
has_more (suc n) [] c h = absurd h
has_more (suc n) (r ∷ rs) c (inl e) = inl e
has_more (suc n) (r ∷ rs) c (inr h) = inr (has_more n rs c h)

byte_more : (n c : ℕ) → (c ≡ space) ⊎ Has (take n alphabet) c → (c ≡ space) ⊎ Has alphabet c
byte_more n c (inl e) = inl e
byte_more n c (inr h) = inr (has_more n alphabet c h)

spelt_more : (n : ℕ) (t : List ℕ) → Spelt (take n alphabet) t → Spelt alphabet t
spelt_more n [] s = tt
spelt_more n (c ∷ t) s = (byte_more n c s.0, spelt_more n t s.1)

-- and its units are read
pub not_fifteen_with_a_row_fewer : FifteenOver without_slash → ⊥
unfolding alphabet sign_of fault_of units_of read_text
not_fifteen_with_a_row_fewer says =
    let keys : Keys slash (units_of slash) = record { passes = refl; same = refl } in
    let none : (t : List ℕ) → TextOver without_slash t → units_of t ≡ units_of slash → ⊥ = λ t o e.
    let over : TextOver alphabet t = record { short = o.short; spelt = spelt_more 39 t o.spelt; spaced = o.spaced } in
    slash_not_spelt (rw (same_keying t slash (passes t over) keys.passes e) at o.spelt) in
    let refused : ◌≡◌ {A = ℕ} 0 15 =
    ap (λ (o : Outcome (Result ℕ ReadFault)). (read_reply o.result).number)
    (says (units_of slash) (0 ∷ []) (read_text slash (0 ∷ [])) (reads slash (0 ∷ []) keys) none) in
    omega arith
