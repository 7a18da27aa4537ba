-- The masks of n modules have n bits; three of eight bits stand side by side in one number; setting requests, one or by a
-- mask, sets their bits; and the ones of a mask are the modules in it.
-- Assumes nothing.
use mathlib.Core.Bool.{Bool, true, false, ◌&&◌}
use mathlib.Core.Path.{◌≡◌, refl, ap, sym, ◌∙◌}
use mathlib.Core.List.{List, [], ◌∷◌, ◌++◌}
use Prim.Native.Nat.{ℕ, zero, suc, ◌+◌, ◌-◌, ◌*◌, ◌/◌, ◌%◌, ◌^◌, ◌<◌, ◌≤◌, min, max}
use native.Mathlib.Omega.{arith}
use native.Mathlib.Nat.{lt_of_lt_of_le, pow-suc, div-one}
use lib.Bits.{bit_and, bit_or, and_step, or_step, and_le_l}
use lib.Count.{ones, ones_in, ones_step}
use lib.Dec.{T, eqb, ltb, lit<, eqb_refl, eqb→eq}
use lib.ListN.{length, take, get_or}
use lib.Pow.{pow-lt, pow_mono, shr-shr}
use lib.Seq.{take-suc, length-take-le}
use mir.Val.{bool_byte}
use Rattle.std.proofs.Common.{append_assoc, append-nil, length-append}
use borrow.Author.Tests.{eqb-true, eqb-false, ltb-true, ltb-false, ne_eqb, eq-eqb}
use Rattle.basics.specs.Choice.{when◌then◌else◌, bit}
use Rattle.basics.specs.Each.{each, each_from}
use Rattle.basics.proofs.BitLaws.{bit_past, bit_half, bit_power, bit_and_law}
use Rattle.basics.proofs.ChoiceLaws.{and_left, and_right, and_both}
use Rattle.basics.proofs.EachLaws.{each_at}
use Rattle.modules.specs.Groups.{module_count}
use Rattle.modules.specs.Masks.{below, mask_of, masks_of, are_masks_of, packed_masks, count_on, one_bit, bits_set, requests_set}
use Rattle.modules.specs.Power.{is_on, is_failed, power_in_range, with_request}
use Rattle.modules.specs.Stage.{modules_in_range, module_second, stage_of, module_switched, switched_by, module_requested, requested_by, module_asked, requested_one}
use Rattle.modules.specs.declared.power.Power.{Power}
use Rattle.modules.specs.declared.power.Power.TheVariants.{On, Off, Failed}
use Rattle.modules.specs.declared.power.Module.{Module}
use Rattle.modules.specs.declared.masks.Masks.{Masks}
use Rattle.modules.proofs.StageLaws.{no_module, one_out, requested_none, request_past}

-- a module's tests, one for each mask
abbrev is_asked : Module → Bool
is_asked m = m.requested

abbrev is_powered : Module → Bool
is_powered m = is_on m.power

abbrev is_given_up : Module → Bool
is_given_up m = is_failed m.power

below_bound : (n mask : ℕ) (set : Bool) → mask < 2 ^ n → below set mask < 2 ^ suc n
below_bound n mask true h = rw (pow-suc 2 n) (omega arith)
below_bound n mask false h = rw (pow-suc 2 n) (omega arith)

pub mask_of_bound : (test : Module → Bool) (ms : List Module) → mask_of test ms < 2 ^ length ms
unfolding mask_of
mask_of_bound test [] = lit< tt
mask_of_bound test (m ∷ ms) = below_bound (length ms) (mask_of test ms) (test m) (mask_of_bound test ms)

mask_of_small : (test : Module → Bool) (n : ℕ) (ms : List Module) → length ms ≤ n → mask_of test ms < 2 ^ n
mask_of_small test n ms h = lt_of_lt_of_le (mask_of_bound test ms) (pow_mono h)

below_shift : (set : Bool) (mask : ℕ) → below set mask ≡ below set 0 + 2 * mask
below_shift true mask = omega arith
below_shift false mask = omega arith

-- ---- a mask's bits

below_half : (set : Bool) (mask : ℕ) → below set mask / 2 ≡ mask
below_half true mask = omega arith
below_half false mask = omega arith

below_digit : (set : Bool) (mask : ℕ) → below set mask % 2 ≡ below set 0
below_digit true mask = omega arith
below_digit false mask = omega arith

below_low : (set : Bool) (mask : ℕ) → bit 0 (below set mask) ≡ set
below_low true mask = eq-eqb (below true mask / 1 % 2) 1 (omega arith)
below_low false mask = ne_eqb (below false mask / 1 % 2) 1 (λ e. absurd (omega (arith, e)))

-- bit i is module i's; past the last there is none, and no bit
module _ (test : Module → Bool) (d : Module) (none : test d ≡ false) where
  mask_of_bit : (i : ℕ) (ms : List Module) → bit i (mask_of test ms) ≡ test (get_or ms i d)
  unfolding mask_of
  mask_of_bit i [] = bit_past 0 0 i (lit< tt) (omega arith) ∙ sym none
  mask_of_bit zero (m ∷ ms) = below_low (test m) (mask_of test ms)
  mask_of_bit (suc i) (m ∷ ms) =
      bit_half i (below (test m) (mask_of test ms))
      ∙ ap (bit i) (below_half (test m) (mask_of test ms))
      ∙ mask_of_bit i ms

requested_bit : (i : ℕ) (ms : List Module) → bit i (masks_of ms).requested ≡ (get_or ms i no_module).requested
unfolding masks_of
requested_bit i ms = mask_of_bit is_asked no_module refl i ms

pub on_bit : (i : ℕ) (ms : List Module) (d : Module) → is_on d.power ≡ false → bit i (masks_of ms).on ≡ is_on (get_or ms i d).power
unfolding masks_of
on_bit i ms d none = mask_of_bit is_powered d none i ms

pub failed_bit : (i : ℕ) (ms : List Module) (d : Module) → is_failed d.power ≡ false → bit i (masks_of ms).failed ≡ is_failed (get_or ms i d).power
unfolding masks_of
failed_bit i ms d none = mask_of_bit is_given_up d none i ms

-- one module more, above the others
mask_of_next : (test : Module → Bool) (ms : List Module) (m : Module) → mask_of test (ms ++ (m ∷ [])) ≡ mask_of test ms + 2 ^ length ms * below (test m) 0
unfolding mask_of
mask_of_next test [] m = by (test m)
  where
    by : (set : Bool) → below set 0 ≡ 0 + 1 * below set 0
    by true = refl
    by false = refl
mask_of_next test (x ∷ ms) m =
    ap (below (test x)) (mask_of_next test ms m)
    ∙ below_shift (test x) (mask_of test ms + 2 ^ length ms * below (test m) 0)
    ∙ rw (pow-suc 2 (length ms)) (omega (arith, below_shift (test x) (mask_of test ms)))

-- ---- three masks side by side

-- those of the modules
pub packed : List Module → ℕ
packed ms = packed_masks (masks_of ms)

-- a power's bits
abbrev pub power_bits : Power → ℕ
power_bits p = below (is_on p) 0 * 256 + below (is_failed p) 0 * 65536

-- a request's bit
asked_bit : (set : Bool) → bool_byte set ≡ below set 0
asked_bit true = omega arith
asked_bit false = omega arith

-- one module more, below the others
abbrev pub packed_with : Module → ℕ → ℕ
packed_with m all = 2 * all + power_bits m.power + bool_byte m.requested

pub packed_step : (m : Module) (ms : List Module) → packed (m ∷ ms) ≡ packed_with m (packed ms)
unfolding packed masks_of mask_of
packed_step m ms =
    let r = below_shift m.requested (mask_of is_asked ms) ∙ ap (λ (n : ℕ). n + 2 * mask_of is_asked ms) (sym (asked_bit m.requested)) in
    let o = below_shift (is_on m.power) (mask_of is_powered ms) in
    let f = below_shift (is_failed m.power) (mask_of is_given_up ms) in
    omega (arith, r, o, f)

pub packed_none : packed [] ≡ 0
unfolding packed masks_of mask_of
packed_none = refl

-- seven modules leave room for one more
pub packed_room : (ms : List Module) → length ms ≤ 7 → packed ms < 8421504
unfolding packed masks_of
packed_room ms h =
    let small : (test : Module → Bool) → mask_of test ms < 128 = λ test. mask_of_small test 7 ms h in
    omega (arith, small is_asked, small is_powered, small is_given_up)

pub power_bits_small : (p : Power) → power_bits p ≤ 65536
power_bits_small (On tries seconds) = omega arith
power_bits_small (Off tries) = omega arith
power_bits_small (Failed left) = omega arith

pub asked_bit_small : (set : Bool) → bool_byte set ≤ 1
asked_bit_small true = omega arith
asked_bit_small false = omega arith

same : {a b c x y z : ℕ} → a ≡ x → b ≡ y → c ≡ z → ◌≡◌ {A = Masks} (record { requested = a; on = b; failed = c }) (record { requested = x; on = y; failed = z })
same p q r = cc

-- ---- masks that agree with modules

pub masks_agree : (ms : List Module) (masks : Masks) → T (are_masks_of ms masks) → masks ≡ masks_of ms
unfolding are_masks_of
masks_agree ms masks h =
    let r : Bool = eqb masks.requested (masks_of ms).requested in
    let o : Bool = eqb masks.on (masks_of ms).on in
    let f : Bool = eqb masks.failed (masks_of ms).failed in
    same
    (eqb→eq masks.requested (masks_of ms).requested (and_left r o (and_left (r && o) f h)))
    (eqb→eq masks.on (masks_of ms).on (and_right r o (and_left (r && o) f h)))
    (eqb→eq masks.failed (masks_of ms).failed (and_right (r && o) f h))

pub masks_own : (ms : List Module) → T (are_masks_of ms (masks_of ms))
unfolding are_masks_of
masks_own ms =
    let r : Bool = eqb (masks_of ms).requested (masks_of ms).requested in
    let o : Bool = eqb (masks_of ms).on (masks_of ms).on in
    and_both (r && o) (eqb (masks_of ms).failed (masks_of ms).failed)
    (and_both r o (eqb_refl (masks_of ms).requested) (eqb_refl (masks_of ms).on))
    (eqb_refl (masks_of ms).failed)

-- side by side they are compared at once
beside : (a b c x y z : ℕ) → a < 256 → b < 256 → c < 256 → x < 256 → y < 256 → z < 256 → eqb (a + b * 256 + c * 65536) (x + y * 256 + z * 65536) ≡ (eqb x a && eqb y b && eqb z c)
beside a b c x y z ha hb hc hx hy hz = by (eqb x a) (eqb y b) (eqb z c) refl refl refl
  where
    here : ℕ
    here = a + b * 256 + c * 65536

    there : ℕ
    there = x + y * 256 + z * 65536

    by : (s t u : Bool) → eqb x a ≡ s → eqb y b ≡ t → eqb z c ≡ u → eqb (a + b * 256 + c * 65536) (x + y * 256 + z * 65536) ≡ (s && t && u)
    by true true true e f g = eq-eqb here there (omega (arith, eqb-true x a e, eqb-true y b f, eqb-true z c g))
    by false t u e f g = ne_eqb here there (λ q. eqb-false x a e (omega (arith, q)))
    by true false u e f g = ne_eqb here there (λ q. eqb-false y b f (omega (arith, q)))
    by true true false e f g = ne_eqb here there (λ q. eqb-false z c g (omega (arith, q)))

pub packed_agree :
    (ms : List Module) (masks : Masks) → length ms ≡ 8 → masks.requested < 256 → masks.on < 256 → masks.failed < 256 →
    eqb (packed ms) (packed_masks masks) ≡ are_masks_of ms masks
unfolding packed masks_of are_masks_of
packed_agree ms masks eight r o f =
    let small : (test : Module → Bool) → mask_of test ms < 256 = λ test. mask_of_small test 8 ms (omega arith) in
    beside
    (mask_of is_asked ms) (mask_of is_powered ms) (mask_of is_given_up ms) masks.requested masks.on masks.failed
    (small is_asked) (small is_powered) (small is_given_up) r o f

-- ---- a walk from the last module to the first

-- some are taken, all in range, and their masks gathered; these are left
pub record Gathered (left ms : List Module) (all : ℕ) : Type 0 where
  pub taken : List Module
  pub whole : left ++ taken ≡ ms
  pub ranges : modules_in_range taken ≡ true
  pub done : all ≡ packed taken

pub gathered_start : (left ms : List Module) → left ≡ ms → Gathered left ms 0
unfolding modules_in_range
gathered_start left ms e = record { taken = []; whole = append-nil left ∙ e; ranges = refl; done = sym packed_none }

pub gathered_end : (left ms : List Module) (all : ℕ) → length left ≡ 0 → (g : Gathered left ms all) → g.taken ≡ ms
gathered_end [] ms all e g = g.whole
gathered_end (m ∷ left) ms all e g = absurd (omega (arith, e))

-- one module more
module _ (left next ms : List Module) (m : Module) (all : ℕ) (last : left ≡ next ++ m ∷ []) (g : Gathered left ms all) where
  more : next ++ (m ∷ g.taken) ≡ ms
  more = sym (append_assoc next (m ∷ []) g.taken) ∙ ap (λ (l : List Module). l ++ g.taken) (sym last) ∙ g.whole

  pub gathered_next : (all' : ℕ) → all' ≡ packed_with m all → power_in_range m.power ≡ true → Gathered next ms all'
  unfolding modules_in_range
  gathered_next all' e here =
      record {
        taken = m ∷ g.taken;
        whole = more;
        ranges = rw (here, g.ranges);
        done = e ∙ ap (packed_with m) g.done ∙ sym (packed_step m g.taken);
      }

  -- it is out of range, and so all are
  pub gathered_out : power_in_range m.power ≡ false → modules_in_range ms ≡ false
  gathered_out out = ap modules_in_range (sym more) ∙ one_out next g.taken m out

  -- there is room for it
  pub gathered_room : length ms ≡ 8 → all < 8421504
  gathered_room eight =
      let l : length next + suc (length g.taken) ≡ 8 = sym (length-append next (m ∷ g.taken)) ∙ ap length more ∙ eight in
      rw g.done (packed_room g.taken (omega (arith, l)))

-- ---- requests set in the masks

-- one digit of it
digit_on : (d x : ℕ) (set : Bool) → d < 2 → below (when eqb d 1 then true else set) x ≡ x * 2 + max (below set 0) d
digit_on zero x true h = omega arith
digit_on zero x false h = omega arith
digit_on (suc zero) x true h = omega arith
digit_on (suc zero) x false h = omega arith
digit_on (suc (suc d)) x set h = absurd (omega arith)

digit_off : (d x a : ℕ) (set : Bool) → d < 2 → a ≤ x → below (when eqb d 1 then false else set) (x - a) ≡ below set x - (a * 2 + min (below set 0) d)
digit_off zero x a true h l = omega arith
digit_off zero x a false h l = omega arith
digit_off (suc zero) x a true h l = omega arith
digit_off (suc zero) x a false h l = omega arith
digit_off (suc (suc d)) x a set h l = absurd (omega arith)

digit_set : (q kept : ℕ) (on set : Bool) → below (when eqb (q % 2) 1 then on else set) (bits_set (q / 2) on kept) ≡ bits_set q on (below set kept)
digit_set q kept true set =
    digit_on (q % 2) (bit_or kept (q / 2)) set (omega arith)
    ∙ sym (rw (below_half set kept, below_digit set kept) at (or_step (below set kept) q))
digit_set q kept false set =
    digit_off (q % 2) kept (bit_and kept (q / 2)) set (omega arith) (and_le_l kept (q / 2))
    ∙ ap (λ (n : ℕ). below set kept - n) (sym (rw (below_half set kept, below_digit set kept) at (and_step (below set kept) q)))

-- a mask's modules from module k on
module _ (mask : ℕ) (on : Bool) where
  asked_from : (k : ℕ) (ms : List Module) → mask / 2 ^ k < 2 ^ length ms → mask_of is_asked (each_from (module_requested mask on) k ms) ≡ bits_set (mask / 2 ^ k) on (mask_of is_asked ms)
  unfolding mask_of each_from
  asked_from k [] h = none on
    where
      none : (on : Bool) → 0 ≡ bits_set (mask / 2 ^ k) on 0
      none true = omega (arith, h)
      none false = refl
  asked_from k (m ∷ ms) h =
      let halved : mask / 2 ^ suc k ≡ mask / 2 ^ k / 2 = ap (λ (n : ℕ). mask / 2 ^ n) (omega arith) ∙ sym (shr-shr mask k 1) in
      let fewer : mask / 2 ^ suc k < 2 ^ length ms = omega (arith, halved, h, pow-suc 2 (length ms)) in
      ap (below (when bit k mask then on else m.requested)) (asked_from (suc k) ms fewer ∙ ap (λ (q : ℕ). bits_set q on (mask_of is_asked ms)) halved)
      ∙ digit_set (mask / 2 ^ k) (mask_of is_asked ms) on m.requested

-- a rule that keeps what a test asks keeps its mask
module _ (test : Module → Bool) (f : ℕ → Module → Module) (keeps : (i : ℕ) (m : Module) → test (f i m) ≡ test m) where
  kept_from_law : (k : ℕ) (ms : List Module) → mask_of test (each_from f k ms) ≡ mask_of test ms
  unfolding mask_of each_from
  kept_from_law k [] = refl
  kept_from_law k (m ∷ ms) = rw (keeps k m, kept_from_law (suc k) ms)

requests_set_law : (mask : ℕ) (on : Bool) (ms : List Module) → mask < 2 ^ length ms → masks_of (requested_by mask on ms) ≡ requests_set mask on (masks_of ms)
unfolding masks_of requested_by each
requests_set_law mask on ms h =
    same
    (asked_from mask on 0 ms (rw (div-one mask) h) ∙ ap (λ (q : ℕ). bits_set q on (mask_of is_asked ms)) (div-one mask))
    (kept_from_law is_powered (module_requested mask on) (λ i m. refl) 0 ms)
    (kept_from_law is_given_up (module_requested mask on) (λ i m. refl) 0 ms)

-- eight modules' masks stay true where their bits are set as their requests are
pub masks_asked : (mask : ℕ) (on : Bool) (ms : List Module) (masks : Masks) → length ms ≡ 8 → mask < 256 → masks ≡ masks_of ms → requests_set mask on masks ≡ masks_of (requested_by mask on ms)
masks_asked mask on ms masks eight small own = ap (requests_set mask on) own ∙ sym (requests_set_law mask on ms (rw eight small))

-- of the modules of a mask, those not requested need not be set off
pub requested_off : (mask : ℕ) (ms : List Module) → requested_by (bit_and (masks_of ms).requested mask) false ms ≡ requested_by mask false ms
unfolding requested_by
requested_off mask ms = each_at (module_requested (bit_and (masks_of ms).requested mask) false) (module_requested mask false) ms no_module off
  where
    cut : (asked here : Bool) → (when asked && here then false else asked) ≡ (when here then false else asked)
    cut true here = refl
    cut false true = refl
    cut false false = refl

    off : (i : ℕ) → i < length ms → module_requested (bit_and (masks_of ms).requested mask) false i (get_or ms i no_module) ≡ module_requested mask false i (get_or ms i no_module)
    off i h =
        let m : Module = get_or ms i no_module in
        ap (λ (t : Bool). with_request (when t then false else m.requested) m) (bit_and_law i (masks_of ms).requested mask ∙ ap (λ (t : Bool). t && bit i mask) (requested_bit i ms))
        ∙ ap (λ (t : Bool). with_request t m) (cut m.requested (bit i mask))

-- one module's request is that of the mask of it alone
requested_one_law : (which : ℕ) (on : Bool) (ms : List Module) → length ms ≡ 8 → requested_one which on ms ≡ requested_by (one_bit which) on ms
unfolding requested_one requested_by
requested_one_law which on ms eight = by (ltb which module_count) refl
  where
    asked : (i : ℕ) (m : Module) → module_asked which on i m ≡ module_requested (2 ^ which) on i m
    asked i m = rw (bit_power i which)

    by : (few : Bool) → ltb which module_count ≡ few → requested_one which on ms ≡ requested_by (when few then 2 ^ which else 0) on ms
    by true e = each_at (module_asked which on) (module_requested (2 ^ which) on) ms no_module (λ i h. asked i (get_or ms i no_module))
    by false e = sym (request_past which on ms no_module (omega (arith, ltb-false which module_count e, eight))) ∙ sym (requested_none on ms)

one_bit_small : (which : ℕ) → one_bit which < 256
one_bit_small which = by (ltb which module_count) refl
  where
    by : (few : Bool) → ltb which module_count ≡ few → (when few then 2 ^ which else 0) < 256
    by true e = pow-lt {j = 8} (ltb-true which module_count e)
    by false e = lit< tt

pub masks_asked_one : (which : ℕ) (on : Bool) (ms : List Module) (masks : Masks) → length ms ≡ 8 → masks ≡ masks_of ms → requests_set (one_bit which) on masks ≡ masks_of (requested_one which on ms)
masks_asked_one which on ms masks eight own =
    masks_asked (one_bit which) on ms masks eight (one_bit_small which) own ∙ ap masks_of (sym (requested_one_law which on ms eight))

-- ---- the ones of a mask

below_ones : (set : Bool) (mask : ℕ) → ones (below set mask) ≡ (when set then 1 else 0) + ones mask
below_ones set mask = ones_step (below set mask) ∙ rw (below_half set mask, below_digit set mask) (low set)
  where
    low : (set : Bool) → below set 0 + ones mask ≡ (when set then 1 else 0) + ones mask
    low true = refl
    low false = refl

ones_none : ones 0 ≡ 0
unfolding ones ones_in
ones_none = refl

pub ones_on : (ms : List Module) → ones (masks_of ms).on ≡ count_on ms
unfolding masks_of mask_of count_on
ones_on [] = ones_none
ones_on (m ∷ ms) = below_ones (is_on m.power) (mask_of is_powered ms) ∙ ap (λ (n : ℕ). (when is_on m.power then 1 else 0) + n) (ones_on ms)

-- ---- the masks that the stage makes as it goes

-- those of the modules on and failed, side by side
pub powers : List Module → ℕ
powers ms = mask_of is_powered ms * 256 + mask_of is_given_up ms * 65536

pub powers_none : powers [] ≡ 0
unfolding powers mask_of
powers_none = refl

-- one module more, above the others
powers_next : (i : ℕ) (ms : List Module) (d : Module) → i < length ms → powers (take (suc i) ms) ≡ powers (take i ms) + 2 ^ i * power_bits (get_or ms i d).power
unfolding powers
powers_next i ms d h =
    let long : length (take i ms) ≡ i = length-take-le i ms (omega arith) in
    let next : (test : Module → Bool) → mask_of test (take (suc i) ms) ≡ mask_of test (take i ms) + 2 ^ i * below (test (get_or ms i d)) 0 =
    λ test. ap (mask_of test) (take-suc ms i d h) ∙ mask_of_next test (take i ms) (get_or ms i d) ∙ ap (λ (n : ℕ). mask_of test (take i ms) + 2 ^ n * below (test (get_or ms i d)) 0) long in
    by (get_or ms i d).power (next is_powered) (next is_given_up)
  where
    by : (p : Power) → mask_of is_powered (take (suc i) ms) ≡ mask_of is_powered (take i ms) + 2 ^ i * below (is_on p) 0 → mask_of is_given_up (take (suc i) ms) ≡ mask_of is_given_up (take i ms) + 2 ^ i * below (is_failed p) 0 → mask_of is_powered (take (suc i) ms) * 256 + mask_of is_given_up (take (suc i) ms) * 65536 ≡ mask_of is_powered (take i ms) * 256 + mask_of is_given_up (take i ms) * 65536 + 2 ^ i * power_bits p
    by (On tries seconds) e f = omega (arith, e, f)
    by (Off tries) e f = omega (arith, e, f)
    by (Failed left) e f = omega (arith, e, f)

-- a bit that is put at the top, and halved with those put in before it, comes down to its place
put_in : (i all before after bits : ℕ) → i < 8 → all ≡ before * 2 ^ (8 - i) → after ≡ before + 2 ^ i * bits → all / 2 + 128 * bits ≡ after * 2 ^ (8 - suc i)
put_in zero all before after bits h e f = omega (arith, e, f)
put_in (suc zero) all before after bits h e f = omega (arith, e, f)
put_in (suc (suc zero)) all before after bits h e f = omega (arith, e, f)
put_in (suc (suc (suc zero))) all before after bits h e f = omega (arith, e, f)
put_in (suc (suc (suc (suc zero)))) all before after bits h e f = omega (arith, e, f)
put_in (suc (suc (suc (suc (suc zero))))) all before after bits h e f = omega (arith, e, f)
put_in (suc (suc (suc (suc (suc (suc zero)))))) all before after bits h e f = omega (arith, e, f)
put_in (suc (suc (suc (suc (suc (suc (suc zero))))))) all before after bits h e f = omega (arith, e, f)
put_in (suc (suc (suc (suc (suc (suc (suc (suc i)))))))) all before after bits h e f = absurd (omega arith)

pub powers_turn : (i all : ℕ) (ms : List Module) (d : Module) → i < 8 → length ms ≡ 8 → all ≡ powers (take i ms) * 2 ^ (8 - i) → all / 2 + 128 * power_bits (get_or ms i d).power ≡ powers (take (i + 1) ms) * 2 ^ (8 - (i + 1))
powers_turn i all ms d h eight e =
    let next : suc i ≡ i + 1 = omega arith in
    put_in i all (powers (take i ms)) (powers (take (suc i) ms)) (power_bits (get_or ms i d).power) h e (powers_next i ms d (omega arith))
    ∙ ap (λ (n : ℕ). powers (take n ms) * 2 ^ (8 - n)) next

pub powers_on : (ms : List Module) → length ms ≡ 8 → powers ms / 256 % 256 ≡ (masks_of ms).on
unfolding powers masks_of
powers_on ms eight = omega (arith, mask_of_small is_powered 8 ms (omega arith), mask_of_small is_given_up 8 ms (omega arith))

pub powers_failed : (ms : List Module) → length ms ≡ 8 → powers ms / 65536 % 256 ≡ (masks_of ms).failed
unfolding powers masks_of
powers_failed ms eight = omega (arith, mask_of_small is_powered 8 ms (omega arith), mask_of_small is_given_up 8 ms (omega arith))

-- the stage leaves the requests
pub stage_requested : (allowed shorts : ℕ) (ms : List Module) → (masks_of (stage_of allowed shorts ms)).requested ≡ (masks_of ms).requested
unfolding masks_of stage_of each
stage_requested allowed shorts ms = kept_from_law is_asked (module_second allowed shorts) (λ i m. refl) 0 ms

-- a module is wanted if requested and allowed: as masks, by the bits that both have
pub stage_wanted : (allowed shorts : ℕ) (ms : List Module) → switched_by (bit_and (masks_of ms).requested allowed) shorts ms ≡ stage_of allowed shorts ms
unfolding switched_by stage_of
stage_wanted allowed shorts ms = each_at (module_switched (bit_and (masks_of ms).requested allowed) shorts) (module_second allowed shorts) ms no_module wanted
  where
    wanted : (i : ℕ) → i < length ms → module_switched (bit_and (masks_of ms).requested allowed) shorts i (get_or ms i no_module) ≡ module_second allowed shorts i (get_or ms i no_module)
    wanted i h = rw (bit_and_law i (masks_of ms).requested allowed, requested_bit i ms)
