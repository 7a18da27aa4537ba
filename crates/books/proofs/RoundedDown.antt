-- Rounded down.
-- Assumes nothing.
use Prim.Native.Nat.{ℕ, ◌+◌, ◌*◌, ◌/◌, ◌<◌}
use mathlib.Core.Path.{◌≡◌, refl}
use mathlib.Core.Bool.{Bool, true, false}
use mathlib.Core.List.{List}
use native.Mathlib.Omega.{arith}
use native.Mathlib.Nat.{div-add-mod', mod-lt}
use Rattle.std.specs.Prelude.{Ok}
use lib.Dec.{T, eqb}
use lib.ListN.{get_or, length, length-replicate}
use borrow.Author.Tests.{eq-eqb, eqb-true, eqb-false}
use Rattle.basics.specs.Choice.{when◌then◌else◌}
use Rattle.basics.proofs.ChoiceLaws.{is_true}
use Rattle.basics.proofs.EachLaws.{at_each}
use Rattle.modules.specs.Groups.{module_count}
use Rattle.books.specs.Books.{book_numbers, none_above}
use Rattle.books.specs.Summary.{share_of, share_in, no_shares, shares_of, summary_of}
use Rattle.books.specs.RoundedDown.{Down, RoundedDown}

pub share_down : (on off failed : ℕ) → Down on (on + off + failed) (share_of on off failed)
share_down on off failed = by (eqb (on + off + failed) 0) refl
  where
    all : ℕ
    all = on + off + failed

    by : (none : Bool) → eqb (on + off + failed) 0 ≡ none → Down on (on + off + failed) (when none then 0 else on * 1000 / (on + off + failed))
    by true e = record { fits = omega arith; next = λ h. absurd (omega (arith, eqb-true (on + off + failed) 0 e)); none = λ z. refl }
    by false e =
        let some : 0 < on + off + failed = omega (arith, eqb-false (on + off + failed) 0 e) in
        let whole = div-add-mod' (on * 1000) (on + off + failed) in
        let rest = mod-lt (on * 1000) some in
        record { fits = omega (arith, whole); next = λ h. omega (arith, whole, rest); none = λ z. absurd (omega (arith, z)) }

share_at : (books : List ℕ) (m : ℕ) → m < module_count → get_or (shares_of books) m 0 ≡ share_in books m
unfolding shares_of
share_at books m h = at_each (λ m none. share_in books m) no_shares m 0 (rw length-replicate h)

given : (books : List ℕ) → length books ≡ book_numbers → T (none_above books) → summary_of books ≡ Ok (shares_of books)
unfolding summary_of
given books size low = simp (eq-eqb (length books) book_numbers size, is_true (none_above books) low)

pub rounded_down : RoundedDown
rounded_down books size low =
    record { answer = given books size low; shares = λ m h. rw (share_at books m h) (share_down _ _ _) }
