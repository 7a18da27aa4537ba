-- Laws of the ends: what becomes of module i's when all fall, when one is set, and which are over; and their ranges.
-- Assumes nothing.
use Prim.Native.Nat.{ℕ, ◌-◌, ◌+◌, ◌≤◌, ◌<◌}
use native.Mathlib.Omega.{arith}
use mathlib.Core.Path.{◌≡◌, refl, sym, ap, ◌∙◌}
use mathlib.Core.Bool.{Bool, true, false, not, ◌&&◌, true≢false}
use lib.Dec.{T, eqb, leb, ltb, lit<, leb→le, le→leb}
use borrow.Author.Tests.{eqb-true, ne_eqb, ltb-true, ltb-false}
use Rattle.basics.specs.Choice.{when◌then◌else◌, bit}
use Rattle.basics.proofs.BitLaws.{bit_past}
use Rattle.basics.proofs.ChoiceLaws.{agreed, and_left, and_right, and_both, either}
use Rattle.basics.proofs.TablesLaws.{upto}
use Rattle.modules.specs.Groups.{module_count, mission_four, is_mission, adcs_module, payload_module, sband1_module, sband2_module}
use Rattle.modules.specs.Ends.{longest_end, no_ends, end_of, ends_fallen, ends_over, with_end, ends_in_range}
use Rattle.modules.specs.declared.ends.Ends.{Ends}

-- a module that is none of the four
abbrev Nowhere : ℕ → Type 0
Nowhere i = (eqb i adcs_module ≡ false) × (eqb i payload_module ≡ false) × (eqb i sband1_module ≡ false) × (eqb i sband2_module ≡ false)

-- what holds of each of the four, and of every module that is none of them, holds of all
by_place :
    (P : ℕ → Type 0) → P adcs_module → P payload_module → P sband1_module → P sband2_module → ((i : ℕ) → Nowhere i → P i) →
    (i : ℕ) → P i
by_place P adcs payload sband1 sband2 nowhere i =
    by (eqb i adcs_module) (eqb i payload_module) (eqb i sband1_module) (eqb i sband2_module) refl refl refl refl
  where
    here : (k : ℕ) → eqb i k ≡ true → P k → P i
    here k e p = rw (eqb-true i k e) p

    by : (a b c d : Bool) → eqb i adcs_module ≡ a → eqb i payload_module ≡ b → eqb i sband1_module ≡ c → eqb i sband2_module ≡ d → P i
    by true b c d e f g h = here adcs_module e adcs
    by false true c d e f g h = here payload_module f payload
    by false false true d e f g h = here sband1_module g sband1
    by false false false true e f g h = here sband2_module h sband2
    by false false false false e f g h = nowhere i (e, f, g, h)

abbrev one_of_four : ℕ → Bool
one_of_four i = when eqb i adcs_module then true else when eqb i payload_module then true else when eqb i sband1_module then true else eqb i sband2_module

mission_four_law : (i : ℕ) → i < module_count → is_mission i ≡ one_of_four i
mission_four_law i low =
    agreed (is_mission i) (one_of_four i) (upto (λ k. when is_mission k then one_of_four k else not (one_of_four k)) module_count tt i low)

-- a module that is none of the four is not of the mission: of the eight by one test, and no mask has a module from 8 on
outside : (i : ℕ) → Nowhere i → is_mission i ≡ false
outside i n = by (ltb i module_count) refl
  where
    by : (low : Bool) → ltb i module_count ≡ low → is_mission i ≡ false
    by true e = mission_four_law i (ltb-true i module_count e) ∙ rw (n.0, n.1, n.2, n.3)
    by false e = bit_past module_count mission_four i (lit< tt) (ltb-false i module_count e)

-- a core module has no end
pub core_none : (i : ℕ) (ends : Ends) → is_mission i ≡ false → end_of i ends ≡ 0
unfolding end_of
core_none i ends =
    by_place (λ k. is_mission k ≡ false → end_of k ends ≡ 0)
    (λ core. absurd (true≢false core)) (λ core. absurd (true≢false core)) (λ core. absurd (true≢false core)) (λ core. absurd (true≢false core))
    (λ k n core. rw (n.0, n.1, n.2, n.3)) i

-- no module has one where none is running
pub none_at : (i : ℕ) → end_of i no_ends ≡ 0
unfolding end_of
none_at = by_place (λ k. end_of k no_ends ≡ 0) refl refl refl refl (λ k n. rw (n.0, n.1, n.2, n.3))

-- a second takes one off each
pub fallen_at : (i : ℕ) (ends : Ends) → end_of i (ends_fallen ends) ≡ end_of i ends - 1
unfolding end_of ends_fallen
fallen_at i ends =
    by_place (λ k. end_of k (ends_fallen ends) ≡ end_of k ends - 1) refl refl refl refl (λ k n. rw (n.0, n.1, n.2, n.3)) i

-- the end that is set
pub set_at : (which seconds : ℕ) (ends : Ends) → is_mission which ≡ true → end_of which (with_end which seconds ends) ≡ seconds
unfolding end_of with_end
set_at which seconds ends =
    by_place (λ k. is_mission k ≡ true → end_of k (with_end k seconds ends) ≡ seconds)
    (λ m. refl) (λ m. refl) (λ m. refl) (λ m. refl) (λ k n m. absurd (true≢false (sym m ∙ outside k n))) which

-- and every other
pub others_at : (i which seconds : ℕ) (ends : Ends) → (i ≡ which → ⊥) → end_of i (with_end which seconds ends) ≡ end_of i ends
unfolding end_of with_end
others_at i which seconds ends =
    by_place (λ k. (k ≡ which → ⊥) → end_of k (with_end which seconds ends) ≡ end_of k ends)
    (λ o. rw (apart adcs_module o)) (λ o. rw (apart payload_module o)) (λ o. rw (apart sband1_module o)) (λ o. rw (apart sband2_module o))
    (λ k n o. rw (n.0, n.1, n.2, n.3)) i
  where
    apart : (k : ℕ) → (k ≡ which → ⊥) → eqb which k ≡ false
    apart k o = ne_eqb which k (λ e. o (sym e))

-- the mask of four tests, and the test of module i among them
abbrev four_bits : (a b c d : Bool) → ℕ
four_bits a b c d = (when a then 8 else 0) + (when b then 16 else 0) + (when c then 64 else 0) + (when d then 128 else 0)

abbrev test_of : ℕ → (a b c d : Bool) → Bool
test_of i a b c d = when eqb i adcs_module then a else when eqb i payload_module then b else when eqb i sband1_module then c else when eqb i sband2_module then d else false

-- they agree: one test over the eight modules and the sixteen masks
abbrev agrees : (i : ℕ) (a b c d : Bool) → Bool
agrees i a b c d = when bit i (four_bits a b c d) then test_of i a b c d else not (test_of i a b c d)

abbrev in_both : (Bool → Bool) → Bool
in_both f = f true && f false

in_both_law : (f : Bool → Bool) → T (in_both f) → (b : Bool) → T (f b)
in_both_law f h true = and_left (f true) (f false) h
in_both_law f h false = and_right (f true) (f false) h

four_bits_law : (i : ℕ) → i < module_count → (a b c d : Bool) → bit i (four_bits a b c d) ≡ test_of i a b c d
four_bits_law i low a b c d =
    let all : T (in_both (λ a. in_both (λ b. in_both (λ c. in_both (agrees i a b c))))) =
    upto (λ k. in_both (λ a. in_both (λ b. in_both (λ c. in_both (agrees k a b c))))) module_count tt i low in
    agreed (bit i (four_bits a b c d)) (test_of i a b c d)
    (in_both_law (agrees i a b c)
    (in_both_law (λ c. in_both (agrees i a b c))
    (in_both_law (λ b. in_both (λ c. in_both (agrees i a b c))) (in_both_law (λ a. in_both (λ b. in_both (λ c. in_both (agrees i a b c)))) all a) b) c) d)

-- the modules that are over are those whose end is 1
pub over_at : (i : ℕ) → i < module_count → (ends : Ends) → bit i (ends_over ends) ≡ eqb (end_of i ends) 1
unfolding end_of ends_over
over_at i low ends =
    let a : Bool = eqb ends.adcs 1 in
    let b : Bool = eqb ends.payload 1 in
    let c : Bool = eqb ends.sband1 1 in
    let d : Bool = eqb ends.sband2 1 in
    four_bits_law i low a b c d
    ∙ by_place (λ k. test_of k a b c d ≡ eqb (end_of k ends) 1) refl refl refl refl (λ k n. rw (n.0, n.1, n.2, n.3)) i

-- no core module is over, and none that is none of the eight
pub over_mission : (i : ℕ) (ends : Ends) → bit i (ends_over ends) ≡ true → is_mission i ≡ true
unfolding ends_over
over_mission i ends over = by (is_mission i) (ltb i module_count) refl refl
  where
    small : (t : Bool) (n : ℕ) → (when t then n else 0) ≤ n
    small t n = either (λ k. k ≤ n) t (omega arith) (omega arith)

    few : ends_over ends < 256
    few =
        omega (
          arith,
          small (eqb ends.adcs 1) 8,
          small (eqb ends.payload 1) 16,
          small (eqb ends.sband1 1) 64,
          small (eqb ends.sband2 1) 128,
        )

    by : (mission low : Bool) → is_mission i ≡ mission → ltb i module_count ≡ low → is_mission i ≡ true
    by true low e h = e
    by false true e h =
        absurd (true≢false (sym over ∙ over_at i (ltb-true i module_count h) ends ∙ ap (λ n. eqb n 1) (core_none i ends e)))
    by false false e h = absurd (true≢false (sym over ∙ bit_past module_count (ends_over ends) i few (ltb-false i module_count h)))

-- all in range by each, and each by all
abbrev short : ℕ → Bool
short end = leb end longest_end

shorter : (end : ℕ) → T (short end) → T (short (end - 1))
shorter end h = le→leb (end - 1) longest_end (omega (arith, leb→le end longest_end h))

pub fallen_in_range : (ends : Ends) → T (ends_in_range ends) → T (ends_in_range (ends_fallen ends))
unfolding ends_in_range ends_fallen
fallen_in_range ends h = search (h, shorter, and_left, and_right, and_both)

pub set_in_range : (which seconds : ℕ) (ends : Ends) → seconds ≤ longest_end → T (ends_in_range ends) → T (ends_in_range (with_end which seconds ends))
unfolding ends_in_range with_end
set_in_range which seconds ends low h =
    let p : T (short seconds) = le→leb seconds longest_end low in
    let kept : (k end : ℕ) → T (short end) → T (short (when eqb which k then seconds else end)) = λ k end q. either (λ n. T (short n)) (eqb which k) p q in
    search (h, kept, and_left, and_right, and_both)
