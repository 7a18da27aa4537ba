-- Laws of the books: the number at a place after a tick, when no number is above the most, and what masks show.
-- Assumes nothing.
use Prim.Native.Nat.{ℕ, zero, suc, ◌+◌, ◌/◌, ◌%◌, ◌<◌, ◌≤◌}
use mathlib.Core.Path.{◌≡◌, refl, ap, ◌∙◌}
use mathlib.Core.Bool.{Bool, true, false}
use mathlib.Core.List.{List, [], ◌∷◌}
use native.Mathlib.Omega.{arith}
use native.Mathlib.Nat.{not-suc-le-zero}
use lib.Dec.{T, eqb, leb, leb→le, le→leb}
use lib.ListN.{get_or, length}
use borrow.Author.Tests.{eqb-true, eq-eqb}
use Rattle.basics.specs.Choice.{when◌then◌else◌, bit}
use Rattle.basics.proofs.ChoiceLaws.{holds, is_true, and_left, and_right, and_both}
use Rattle.basics.proofs.EachLaws.{length_each, at_each, each_at}
use Rattle.modules.specs.Groups.{module_count}
use Rattle.modules.specs.Masks.{masks_of}
use Rattle.modules.specs.Power.{is_on, is_failed}
use Rattle.modules.specs.declared.power.Power.{Power}
use Rattle.modules.specs.declared.power.Power.TheVariants.{On, Off, Failed}
use Rattle.modules.specs.declared.power.Module.{Module}
use Rattle.modules.specs.declared.masks.Masks.{Masks}
use Rattle.modules.proofs.MasksLaws.{on_bit, failed_bit}
use Rattle.supervisor.specs.State.{off_module}
use Rattle.books.specs.Books.{book_numbers, most_seconds, second_of, place_of, shown_as, added_to, counted, none_above}

-- a test and another that each imply the other
same_truth : (a b : Bool) → (T a → T b) → (T b → T a) → a ≡ b
same_truth true true f g = refl
same_truth true false f g = absurd (f tt)
same_truth false true f g = absurd (g tt)
same_truth false false f g = refl

-- ---- what masks show

shown_power : (p : Power) → (when is_on p then 0 else when is_failed p then 2 else 1) ≡ second_of p
shown_power (On tries seconds) = refl
shown_power (Off tries) = refl
shown_power (Failed left) = refl

-- the masks of modules show what each is found as
pub shown_found : (ms : List Module) (m : ℕ) → shown_as (masks_of ms) m ≡ second_of (get_or ms m off_module).power
shown_found ms m = rw (on_bit m ms off_module refl, failed_bit m ms off_module refl) (shown_power (get_or ms m off_module).power)

-- one of three
pub shown_small : (masks : Masks) (m : ℕ) → shown_as masks m < 3
shown_small masks m = by (bit m masks.on) (bit m masks.failed)
  where
    by : (on failed : Bool) → (when on then 0 else when failed then 2 else 1) < 3
    by true failed = omega arith
    by false true = omega arith
    by false false = omega arith

-- ---- the numbers

pub added_small : (found : ℕ → ℕ) (i : ℕ) → added_to found i ≤ 1
added_small found i = by (eqb (found (i / 3)) (i % 3))
  where
    by : (here : Bool) → (when here then 1 else 0) ≤ 1
    by true = omega arith
    by false = omega arith

-- number 3m + k, k below 3
module _ (found : ℕ → ℕ) (m k : ℕ) (small : k < 3) where
  pub added_at : added_to found (place_of m k) ≡ (when eqb (found m) k then 1 else 0)
  added_at =
      let whose : place_of m k / 3 ≡ m = omega arith in
      let which : place_of m k % 3 ≡ k = omega arith in
      ap (λ (n : ℕ). when eqb (found n) (place_of m k % 3) then 1 else 0) whose ∙ ap (λ (n : ℕ). when eqb (found m) n then 1 else 0) which

pub added_found : (found : ℕ → ℕ) (m : ℕ) → found m < 3 → added_to found (place_of m (found m)) ≡ 1
added_found found m small = added_at found m (found m) small ∙ ap (λ (t : Bool). when t then 1 else 0) (eq-eqb (found m) (found m) refl)

module _ (found : ℕ → ℕ) (books : List ℕ) where
  pub counted_length : length (counted found books) ≡ length books
  unfolding counted
  counted_length = length_each (λ i n. n + added_to found i) books

  pub counted_at : (i : ℕ) → i < length books → get_or (counted found books) i 0 ≡ get_or books i 0 + added_to found i
  unfolding counted
  counted_at i h = at_each (λ i n. n + added_to found i) books i 0 h

-- what tells the same of the eight modules counts the same
pub counted_same :
    (found shown : ℕ → ℕ) (books : List ℕ) → length books ≡ book_numbers → ((m : ℕ) → m < module_count → found m ≡ shown m) →
    counted found books ≡ counted shown books
unfolding counted
counted_same found shown books size alike =
    each_at (λ i n. n + added_to found i) (λ i n. n + added_to shown i) books 0
    (λ i h. ap (λ (k : ℕ). get_or books i 0 + (when eqb k (i % 3) then 1 else 0)) (alike (i / 3) (omega (arith, size, h))))

-- ---- no number above the most

pub none_above_at : (books : List ℕ) → T (none_above books) → (i : ℕ) → i < length books → get_or books i 0 ≤ most_seconds
unfolding none_above
none_above_at [] t i h = absurd (not-suc-le-zero h)
none_above_at (n ∷ books) t zero h = leb→le n most_seconds (and_left (leb n most_seconds) (none_above books) t)
none_above_at (n ∷ books) t (suc i) h = none_above_at books (and_right (leb n most_seconds) (none_above books) t) i (omega arith)

none_above_of : (books : List ℕ) → ((i : ℕ) → i < length books → get_or books i 0 ≤ most_seconds) → T (none_above books)
unfolding none_above
none_above_of [] low = tt
none_above_of (n ∷ books) low =
    and_both (leb n most_seconds) (none_above books) (le→leb n most_seconds (low 0 (omega arith))) (none_above_of books (λ i h. low (suc i) (omega arith)))

-- a tick takes none above if those that it adds to are below
module _ (found : ℕ → ℕ) (small : (m : ℕ) → found m < 3) (books : List ℕ) (size : length books ≡ book_numbers) where
  pub room_at : T (none_above (counted found books)) → (m : ℕ) → m < module_count → get_or books (place_of m (found m)) 0 < most_seconds
  room_at t m h =
      let k = small m in
      let here : place_of m (found m) < length books = omega (arith, size) in
      let there : place_of m (found m) < length (counted found books) = rw (counted_length found books) here in
      omega (arith, counted_at found books (place_of m (found m)) here, added_found found m k, none_above_at (counted found books) t (place_of m (found m)) there)

  fits : T (none_above books) → ((m : ℕ) → m < module_count → get_or books (place_of m (found m)) 0 < most_seconds) → (i : ℕ) → i < length books → get_or (counted found books) i 0 ≤ most_seconds
  fits low below i h = by (eqb (found (i / 3)) (i % 3)) refl
    where
      by : (here : Bool) → eqb (found (i / 3)) (i % 3) ≡ here → get_or (counted found books) i 0 ≤ most_seconds
      by true e =
          let place : place_of (i / 3) (found (i / 3)) ≡ i = omega (arith, eqb-true (found (i / 3)) (i % 3) e) in
          let less : get_or books i 0 < most_seconds = rw place at (below (i / 3) (omega (arith, size, h))) in
          omega (arith, counted_at found books i h, added_small found i, less)
      by false e =
          let none : added_to found i ≡ 0 = ap (λ (t : Bool). when t then 1 else 0) e in
          omega (arith, counted_at found books i h, none, none_above_at books low i h)

  pub takes_tick : none_above books ≡ true → ((m : ℕ) → m < module_count → get_or books (place_of m (found m)) 0 < most_seconds) → none_above (counted found books) ≡ true
  takes_tick low below =
      is_true (none_above (counted found books))
      (none_above_of (counted found books) (λ i h. fits (holds (none_above books) low) below i (rw (counted_length found books) at h)))

  pub takes_no_tick : (m : ℕ) → m < module_count → most_seconds ≤ get_or books (place_of m (found m)) 0 → none_above (counted found books) ≡ false
  takes_no_tick m h most = by (none_above (counted found books)) refl
    where
      by : (t : Bool) → none_above (counted found books) ≡ t → t ≡ false
      by true e = absurd (omega (arith, most, room_at (holds (none_above (counted found books)) e) m h))
      by false e = refl
