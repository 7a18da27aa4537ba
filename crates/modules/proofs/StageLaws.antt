-- Laws of all eight modules: setting one module's request is one store; one module out of range is all out of range; the
-- stage and the requests keep the ranges of check 1.
-- Assumes nothing.
use Prim.Native.Nat.{ℕ, suc, ◌+◌, ◌≤◌}
use mathlib.Core.Path.{◌≡◌, refl, sym, ap, ◌∙◌}
use mathlib.Core.Bool.{Bool, true, false, ◌&&◌, true≢false}
use mathlib.Core.List.{List, [], ◌∷◌, ◌++◌}
use native.Mathlib.Omega.{arith}
use lib.Dec.{T, lit<}
use lib.ListN.{length, get_or, set}
use lib.Seq.{set_out, set-get_or}
use borrow.Author.Tests.{ne_eqb, eq-eqb}
use Rattle.basics.specs.Choice.{bit}
use Rattle.basics.specs.Each.{each, each_from}
use Rattle.basics.proofs.ChoiceLaws.{and_left, and_right, and_both}
use Rattle.basics.proofs.BitLaws.{bit_past}
use Rattle.basics.proofs.EachLaws.{each_kept, each_one, each_twice, worked, worked_turn}
use Rattle.modules.specs.Power.{power_in_range, with_request}
use Rattle.modules.specs.Stage.{is_wanted, module_second, stage_of, module_requested, requested_by, module_asked, requested_one, modules_in_range}
use Rattle.modules.proofs.PowerLaws.{switched_in_range}
use Rattle.modules.specs.declared.power.Power.TheVariants.{On}
use Rattle.modules.specs.declared.power.Module.{Module}

-- what the code's arrays are said to hold past the last module
abbrev pub no_module : Module
no_module = record { power = On 0 0; requested = false }

module _ (which : ℕ) (on : Bool) where
  others : (i : ℕ) (m : Module) → (i ≡ which → ⊥) → module_asked which on i m ≡ m
  others i m h = simp (ne_eqb i which h)

  itself : (m : Module) → with_request on m ≡ module_asked which on which m
  itself m = simp (eq-eqb which which refl)

  pub request_stored : (ms : List Module) (d : Module) → set ms which (with_request on (get_or ms which d)) ≡ requested_one which on ms
  unfolding requested_one
  request_stored ms d = ap (set ms which) (itself (get_or ms which d)) ∙ each_one (module_asked which on) which ms d others

  -- there is no such module
  pub request_past : (ms : List Module) (d : Module) → length ms ≤ which → ms ≡ requested_one which on ms
  unfolding requested_one
  request_past ms d h = sym (set_out ms which _ h) ∙ each_one (module_asked which on) which ms d others

-- a turn of setting requests by a mask: a module of the mask is stored with its request, another needs no store
module _ (mask : ℕ) (on : Bool) (i : ℕ) (ms : List Module) (d : Module) where
  abbrev before : List Module
  before = worked (module_requested mask on) i ms

  pub in_mask : bit i mask ≡ true → set before i (with_request on (get_or before i d)) ≡ worked (module_requested mask on) (i + 1) ms
  in_mask here = rw here at (worked_turn (module_requested mask on) i ms d)

  pub not_in_mask : bit i mask ≡ false → before ≡ worked (module_requested mask on) (i + 1) ms
  not_in_mask out = sym (set-get_or before i d) ∙ rw out at (worked_turn (module_requested mask on) i ms d)

-- a mask of none sets no request
pub requested_none : (on : Bool) (ms : List Module) → requested_by 0 on ms ≡ ms
unfolding requested_by
requested_none on ms = each_kept (module_requested 0 on) ms (λ i m. rw (bit_past 0 0 i (lit< tt) (omega arith)))

-- of two masks, one within the other, set to the same, the wider is enough
module _ (a b : ℕ) (on : Bool) (inside : (i : ℕ) → bit i b ≡ true → bit i a ≡ true) where
  wider : (i : ℕ) (m : Module) → module_requested a on i (module_requested b on i m) ≡ module_requested a on i m
  wider i m = by (bit i a) (bit i b) refl refl
    where
      by : (s t : Bool) → bit i a ≡ s → bit i b ≡ t → module_requested a on i (module_requested b on i m) ≡ module_requested a on i m
      by true t e f = rw e
      by false true e f = absurd (true≢false (sym (inside i f) ∙ e))
      by false false e f = rw (e, f)

  pub requested_wider : (ms : List Module) → requested_by a on (requested_by b on ms) ≡ requested_by a on ms
  unfolding requested_by
  requested_wider ms = each_twice (module_requested a on) (module_requested b on) (module_requested a on) wider ms

-- one module out of range
and_false : (a : Bool) → a && false ≡ false
and_false true = refl
and_false false = refl

pub one_out : (before after : List Module) (m : Module) → power_in_range m.power ≡ false → modules_in_range (before ++ (m ∷ after)) ≡ false
unfolding modules_in_range
one_out [] after m out = rw out
one_out (x ∷ before) after m out = rw (one_out before after m out) (and_false (power_in_range x.power))

-- a rule that keeps each module's tries and seconds in range keeps all
module _ (f : ℕ → Module → Module) (keeps : (i : ℕ) (m : Module) → T (power_in_range m.power) → T (power_in_range (f i m).power)) where
  from_in_range : (k : ℕ) (ms : List Module) → T (modules_in_range ms) → T (modules_in_range (each_from f k ms))
  unfolding modules_in_range each_from
  from_in_range k [] h = tt
  from_in_range k (m ∷ ms) h =
      and_both (power_in_range (f k m).power) (modules_in_range (each_from f (suc k) ms))
      (keeps k m (and_left (power_in_range m.power) (modules_in_range ms) h))
      (from_in_range (suc k) ms (and_right (power_in_range m.power) (modules_in_range ms) h))

  each_in_range : (ms : List Module) → T (modules_in_range ms) → T (modules_in_range (each f ms))
  unfolding each
  each_in_range ms h = from_in_range 0 ms h

pub stage_in_range : (allowed shorts : ℕ) (ms : List Module) → T (modules_in_range ms) → T (modules_in_range (stage_of allowed shorts ms))
unfolding stage_of
stage_in_range allowed shorts ms h =
    each_in_range (module_second allowed shorts) (λ i m p. switched_in_range (is_wanted allowed i m) (bit i shorts) m.power p) ms h

pub requested_in_range : (mask : ℕ) (on : Bool) (ms : List Module) → T (modules_in_range ms) → T (modules_in_range (requested_by mask on ms))
unfolding requested_by
requested_in_range mask on ms h = each_in_range (module_requested mask on) (λ i m p. p) ms h

pub asked_in_range : (which : ℕ) (on : Bool) (ms : List Module) → T (modules_in_range ms) → T (modules_in_range (requested_one which on ms))
unfolding requested_one
asked_in_range which on ms h = each_in_range (module_asked which on) (λ i m p. p) ms h
