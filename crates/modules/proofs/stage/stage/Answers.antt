-- `stage` meets its contract: after i turns the first i modules are worked, both masks are halved i times, and the bits of
-- those on and failed, as they will be, are put in, above the places that are still to come.
use Prim.Native.Nat.{ℕ, ◌+◌, ◌*◌, ◌/◌, ◌%◌}
use mathlib.Core.Path.{◌≡◌, ap, sym, ◌∙◌}
use mathlib.Core.List.{List}
use native.Mathlib.Nat.{div-one, mul-one}
use native.Mathlib.Omega.{arith}
use lib.ListN.{length, get_or}
use lib.Pow.{shr-shr}
use lib.Seq.{take_all}
use borrow.Author.Rules.{rules}
use Rattle.basics.proofs.EachLaws.{worked_none, worked_turn, worked_all, worked_here, at_each, length_each, length_mapped}
use Rattle.modules.specs.Stage.{module_switched, switched_by}
use Rattle.modules.specs.declared.power.Module.{Module}
use Rattle.modules.specs.declared.stage.Staged.{Staged}
use Rattle.modules.proofs.StageLaws.{no_module}
use Rattle.modules.proofs.MarkLaws.{marked_none, marked_next, marked_more, marked_bit, marked_end}
use Rattle.modules.proofs.MasksLaws.{power_bits, powers, powers_none, powers_turn, powers_on, powers_failed, power_bits_small}
use Rattle.modules.proofs.stage.stage.Goals as goal

pub loop-rest-init : goal.loop-rest-init
loop-rest-init c =
    record {
      low = search rules;
      left = rw c.from-rest.ensures (marked_none _);
      bits = sym (div-one _);
      done = worked_none _ _;
      gathered = sym (ap (λ (n : ℕ). n * 256) powers_none);
      small = search rules;
    }

pub loop-rest-preserved : goal.loop-rest-preserved
unfolding switched_by
loop-rest-preserved c =
    let i = c.loop-rest.i in
    let ms = c.args.modules in
    let wanted = c.args.wanted in
    let shorts = c.args.shorts in
    let eight : length ms ≡ 8 = search (rules, length_mapped) in
    let after = c.second-after in
    let more = marked_more i _ _ c.loop-rest.invariant.low (search rules) c.loop-rest.invariant.left (search rules) in
    let seen : after.result ≡ (get_or (switched_by wanted shorts ms) i no_module).power =
    simp (
      after.ensures,
      c.loop-rest.invariant.left,
      c.loop-rest.invariant.bits,
      marked_bit i shorts more,
      c.loop-rest.invariant.done,
      worked_here (module_switched wanted shorts) i ms no_module,
    )
    (sym (ap (λ (m : Module). m.power) (at_each (module_switched wanted shorts) ms i no_module (omega (arith, more, eight))))) in
    record {
      low = omega (arith, more);
      left = ap (λ (r : ℕ). r / 2) c.loop-rest.invariant.left ∙ marked_next _ _;
      bits = ap (λ (r : ℕ). r / 2) c.loop-rest.invariant.bits ∙ shr-shr _ _ 1;
      done =
          simp (
            c.with_power.ensures,
            after.ensures,
            c.loop-rest.invariant.left,
            c.loop-rest.invariant.bits,
            marked_bit i shorts more,
            c.loop-rest.invariant.done,
          )
          (worked_turn _ _ _ _);
      gathered =
          ap (λ (n : ℕ). c.loop-rest.all / 2 + 128 * n) (c.power_bits.ensures ∙ ap power_bits seen)
          ∙ powers_turn i c.loop-rest.all (switched_by wanted shorts ms) no_module more
          (length_each (module_switched wanted shorts) ms ∙ eight) c.loop-rest.invariant.gathered;
      small = omega (arith, c.loop-rest.invariant.small, rw (← c.power_bits.ensures) at (power_bits_small after.result));
    }

same : {ms ns : List Module} {a b x y : ℕ} → ms ≡ ns → a ≡ x → b ≡ y → ◌≡◌ {A = Staged} (record { modules = ms; on = a; failed = b }) (record { modules = ns; on = x; failed = y })
same p q r = cc

pub returns : goal.returns
unfolding switched_by
returns c =
    let ms = c.args.modules in
    let wanted = c.args.wanted in
    let shorts = c.args.shorts in
    let eight : length ms ≡ 8 = search (rules, length_mapped) in
    let e : c.loop-rest.i ≡ 8 = marked_end _ _ _ c.loop-rest.invariant.low c.loop-rest.invariant.left (search rules) in
    let worked_eight : length (switched_by wanted shorts ms) ≡ 8 = length_each (module_switched wanted shorts) ms ∙ eight in
    let all : c.loop-rest.all ≡ powers (switched_by wanted shorts ms) =
    (rw e at c.loop-rest.invariant.gathered)
    ∙ mul-one _
    ∙ ap powers (take_all 8 (switched_by wanted shorts ms) (omega (arith, worked_eight))) in
    same
    ((rw e at c.loop-rest.invariant.done) ∙ worked_all _ 8 ms eight)
    (ap (λ (n : ℕ). n / 256 % 256) all ∙ powers_on (switched_by wanted shorts ms) worked_eight)
    (ap (λ (n : ℕ). n / 65536 % 256) all ∙ powers_failed (switched_by wanted shorts ms) worked_eight)
