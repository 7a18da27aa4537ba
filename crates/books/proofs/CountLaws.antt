-- Counting a tick, a module a turn.
-- Assumes nothing.
use Prim.Native.Nat.{ℕ, ◌+◌, ◌/◌, ◌%◌, ◌<◌, ◌≤◌}
use mathlib.Core.Path.{◌≡◌, refl, ap, sym, ◌∙◌}
use mathlib.Core.Bool.{Bool, true, false}
use mathlib.Core.List.{List}
use native.Mathlib.Omega.{arith}
use lib.Dec.{eqb, ltb}
use lib.ListN.{get_or, set, length}
use borrow.Author.Tests.{eqb-true, eqb-false, eq-eqb, ne_eqb, ltb-true, ltb-false, lt-ltb, le-ltb}
use Rattle.basics.specs.Choice.{when◌then◌else◌}
use Rattle.basics.specs.Each.{each}
use Rattle.basics.proofs.ChoiceLaws.{holds}
use Rattle.basics.proofs.EachLaws.{each_kept, each_one, each_twice}
use Rattle.modules.specs.Groups.{module_count}
use Rattle.books.specs.Books.{book_numbers, most_seconds, place_of, added_to, counted, none_above}
use Rattle.books.proofs.BooksLaws.{added_small, counted_at, counted_same, room_at}

-- 1 where a test passes
abbrev one_if : Bool → ℕ
one_if t = when t then 1 else 0

-- of the modules below n alone: the others are found as nothing that is counted
abbrev pub up_to : (n : ℕ) (found : ℕ → ℕ) → ℕ → ℕ
up_to n found m = when ltb m n then found m else 3

-- what a tick adds to number i for those modules
adds : (n : ℕ) (found : ℕ → ℕ) (i : ℕ) (n≤ : Bool) → ltb (i / 3) n ≡ n≤ → added_to (up_to n found) i ≡ one_if (eqb (when n≤ then found (i / 3) else 3) (i % 3))
adds n found i t e = ap (λ (t : Bool). one_if (eqb (when t then found (i / 3) else 3) (i % 3))) e

adds_none : (n : ℕ) (found : ℕ → ℕ) (i : ℕ) → ltb (i / 3) n ≡ false → added_to (up_to n found) i ≡ 0
adds_none n found i e = adds n found i false e ∙ ap one_if (ne_eqb 3 (i % 3) (λ q. absurd (omega (arith, q))))

pub counted_none : (found : ℕ → ℕ) (books : List ℕ) → books ≡ counted (up_to 0 found) books
unfolding counted
counted_none found books = sym (each_kept (λ i n. n + added_to (up_to 0 found) i) books (λ i n. rw (adds_none 0 found i (le-ltb (i / 3) 0 (omega arith))) (omega arith)))

pub counted_all : (found : ℕ → ℕ) (books : List ℕ) → length books ≡ book_numbers → counted (up_to module_count found) books ≡ counted found books
counted_all found books size =
    counted_same (up_to module_count found) found books size (λ m h. ap (λ (t : Bool). when t then found m else 3) (lt-ltb m module_count h))

-- one turn: the number of module m for what it is found as
module _ (found : ℕ → ℕ) (m : ℕ) (small : found m < 3) where
  -- what it does to number i
  raise : ℕ → ℕ → ℕ
  raise i n = when eqb i (place_of m (found m)) then n + 1 else n

  raise_here : (n : ℕ) → raise (place_of m (found m)) n ≡ n + 1
  unfolding raise
  raise_here n = ap (λ (t : Bool). when t then n + 1 else n) (eq-eqb (place_of m (found m)) (place_of m (found m)) refl)

  raise_others : (i n : ℕ) → (i ≡ place_of m (found m) → ⊥) → raise i n ≡ n
  unfolding raise
  raise_others i n away = ap (λ (t : Bool). when t then n + 1 else n) (ne_eqb i (place_of m (found m)) away)

  -- number i after the modules below m, and m
  both : (i n : ℕ) → raise i (n + added_to (up_to m found) i) ≡ n + added_to (up_to (m + 1) found) i
  both i n = by (ltb (i / 3) m) (ltb (i / 3) (m + 1)) refl refl
    where
      -- it is not module m's
      away : (i / 3 ≡ m → ⊥) → added_to (up_to m found) i ≡ added_to (up_to (m + 1) found) i → raise i (n + added_to (up_to m found) i) ≡ n + added_to (up_to (m + 1) found) i
      away other same =
          raise_others i (n + added_to (up_to m found) i) (λ e. other (omega (arith, e, small))) ∙ ap (λ (k : ℕ). n + k) same

      -- it is, and that for what it is found as, or another
      here : i / 3 ≡ m → (it : Bool) → eqb (found m) (i % 3) ≡ it → added_to (up_to m found) i ≡ 0 → added_to (up_to (m + 1) found) i ≡ one_if (eqb (found m) (i % 3)) → raise i (n + added_to (up_to m found) i) ≡ n + added_to (up_to (m + 1) found) i
      here own true e none added =
          let place : i ≡ place_of m (found m) = omega (arith, own, eqb-true (found m) (i % 3) e) in
          let more : added_to (up_to (m + 1) found) i ≡ 1 = added ∙ ap one_if e in
          ap (λ (k : ℕ). raise k (n + added_to (up_to m found) i)) place
          ∙ raise_here (n + added_to (up_to m found) i)
          ∙ omega (arith, none, more)
      here own false e none added =
          let no_more : added_to (up_to (m + 1) found) i ≡ 0 = added ∙ ap one_if e in
          raise_others i (n + added_to (up_to m found) i) (λ q. eqb-false (found m) (i % 3) e (omega (arith, q, own, small)))
          ∙ omega (arith, none, no_more)

      by : (t u : Bool) → ltb (i / 3) m ≡ t → ltb (i / 3) (m + 1) ≡ u → raise i (n + added_to (up_to m found) i) ≡ n + added_to (up_to (m + 1) found) i
      by true true e f = away (λ q. absurd (omega (arith, q, ltb-true (i / 3) m e))) (adds m found i true e ∙ sym (adds (m + 1) found i true f))
      by false false e f = away (λ q. absurd (omega (arith, q, ltb-false (i / 3) (m + 1) f))) (adds_none m found i e ∙ sym (adds_none (m + 1) found i f))
      by true false e f = absurd (omega (arith, ltb-true (i / 3) m e, ltb-false (i / 3) (m + 1) f))
      by false true e f =
          let own : i / 3 ≡ m = omega (arith, ltb-false (i / 3) m e, ltb-true (i / 3) (m + 1) f) in
          here own (eqb (found m) (i % 3)) refl (adds_none m found i e)
          (adds (m + 1) found i true f ∙ ap (λ (k : ℕ). one_if (eqb (found k) (i % 3))) own)

  pub counted_turn :
      (books : List ℕ) →
      set (counted (up_to m found) books) (place_of m (found m)) (get_or (counted (up_to m found) books) (place_of m (found m)) 0 + 1) ≡ counted (up_to (m + 1) found) books
  unfolding counted
  counted_turn books =
      let xs = each (λ i n. n + added_to (up_to m found) i) books in
      ap (set xs (place_of m (found m))) (sym (raise_here (get_or xs (place_of m (found m)) 0)))
      ∙ each_one raise (place_of m (found m)) xs 0 raise_others
      ∙ each_twice raise (λ i n. n + added_to (up_to m found) i) (λ i n. n + added_to (up_to (m + 1) found) i) both books

-- on the way no number passes the most
pub counted_low :
    (found : ℕ → ℕ) → ((m : ℕ) → found m < 3) → (books : List ℕ) → length books ≡ book_numbers → none_above (counted found books) ≡ true →
    (m : ℕ) → m < module_count → get_or (counted (up_to m found) books) (place_of m (found m)) 0 ≤ most_seconds
counted_low found small books size low m h =
    let k = small m in
    let here : place_of m (found m) < length books = omega (arith, size) in
    omega
    (arith, counted_at (up_to m found) books (place_of m (found m)) here, added_small (up_to m found) (place_of m (found m)), room_at found small books size (holds (none_above (counted found books)) low) m h)
