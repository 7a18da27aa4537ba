-- The tries of a module that starts and shorts, beside the costly shorts and the clean ticks of a history.
-- Assumes nothing.
use Prim.Native.Nat.{ℕ, ◌+◌, ◌-◌, ◌≤◌, ◌<◌}
use native.Mathlib.Omega.{arith}
use native.Mathlib.Nat.{sub-zero}
use mathlib.Core.Path.{◌≡◌, refl, sym, ap, ◌∙◌}
use mathlib.Core.Bool.{Bool, true, false, ◌&&◌, true≢false}
use mathlib.Core.List.{List, [], ◌∷◌}
use mathlib.Core.Logic.{◌⊎◌, ⊎_elim}
use lib.Dec.{T, eqb, leb, ltb}
use borrow.Author.Tests.{eqb-true, ltb-false, leb-false}
use Rattle.basics.specs.Choice.{when◌then◌else◌}
use Rattle.basics.proofs.ChoiceLaws.{is_true, holds, and_left, and_right, neither_left, neither_right, decided}
use Rattle.modules.specs.Power.{switched, one_try_fewer, is_on, tries_left, full_tries, clean_seconds}
use Rattle.modules.specs.declared.power.Power.{Power}
use Rattle.modules.specs.declared.power.Power.TheVariants.{On, Off, Failed}
use Rattle.supervisor.specs.State.{module_at}
use Rattle.supervisor.specs.History.{Call, called, after, about_of, done_tick}
use Rattle.supervisor.specs.declared.state.State.{State}
use Rattle.promises.specs.Deployment.{deployed}
use Rattle.promises.specs.ForAReason.{wanted_in}
use Rattle.promises.specs.TwoCraft.{shorted}
use Rattle.promises.specs.CountsAsFailed.{costs, costly, costly_shorts, row_after, has_row, TriesFall, FailsWith}
use Rattle.promises.proofs.Deployment.{stays_deployed}
use Rattle.promises.proofs.ForAReason.{second}
use Rattle.promises.proofs.OnlyTicks.{only_ticks}

-- a module has so many tries, and if it is on, at most `row` seconds
abbrev Counts : (tries row : ℕ) → Power → Type 0
Counts tries row (On own seconds) = (own ≡ tries) × (seconds ≤ row)
Counts tries row (Off own) = own ≡ tries
Counts tries row (Failed left) = ⊥

counts_tries : (tries row : ℕ) (p : Power) → Counts tries row p → tries_left p ≡ tries
counts_tries tries row (On own seconds) h = h.0
counts_tries tries row (Off own) h = h
counts_tries tries row (Failed left) h = absurd h

-- a costly short takes a try
costs_one : (w : Bool) (p : Power) → T (costs w p) → switched w true p ≡ one_try_fewer (tries_left p)
unfolding switched
costs_one w (On tries seconds) t = refl
costs_one true (Off tries) t = refl
costs_one false (Off tries) t = absurd t
costs_one w (Failed left) t = absurd t

-- of two tries or more, one fewer are some
fewer_counts : (tries row : ℕ) → 1 < tries → Counts (tries - 1) row (one_try_fewer tries)
fewer_counts tries row more = decided (Counts (tries - 1) row) (eqb (tries - 1) 0) (λ e. absurd (omega (arith, eqb-true (tries - 1) 0 e))) (λ e. refl)

-- the clean seconds in a row, one second later
abbrev next_row : (before after : Power) → (row : ℕ) → ℕ
next_row before after row = when is_on before && is_on after then row + 1 else 0

module _ (tries row : ℕ) where
  -- what a second leaves, as long as 60 in a row are not reached
  abbrev Keeps : (before after : Power) → Type 0
  Keeps before after = next_row before after row < 60 → Counts tries (next_row before after row) after

  -- a second without a costly short takes none
  costs_none : (w short : Bool) (p : Power) → Counts tries row p → short && costs w p ≡ false → Keeps p (switched w short p)
  unfolding switched
  costs_none w true (On own seconds) h e few = absurd (true≢false e)
  costs_none false false (On own seconds) h e few = h.0
  costs_none true false (On own seconds) h e few =
      decided (Keeps (On own seconds)) (eqb own full_tries) (λ f few. (h.0, omega (arith, h.1)))
      (λ f. decided (Keeps (On own seconds)) (ltb (seconds + 1) clean_seconds) (λ g few. (h.0, omega (arith, h.1)))
      (λ g few. absurd (omega (arith, h.1, ltb-false (seconds + 1) clean_seconds g)))) few
  costs_none false short (Off own) h e few = h
  costs_none true false (Off own) h e few = (h, omega arith)
  costs_none true true (Off own) h e few = absurd (true≢false e)
  costs_none w short (Failed left) h e few = absurd h

-- how many tries it costs
abbrev cost : Bool → ℕ
cost dear = when dear then 1 else 0

second_counts :
    (tries row : ℕ) (w short : Bool) (p : Power) → Counts tries row p → (dear : Bool) → short && costs w p ≡ dear → cost dear < tries →
    next_row p (switched w short p) row < 60 → Counts (tries - cost dear) (next_row p (switched w short p) row) (switched w short p)
second_counts tries row w true p h true e more few =
    rw (costs_one w p (holds (costs w p) e), counts_tries tries row p h) (fewer_counts tries _ more)
second_counts tries row w false p h true e more few = absurd (true≢false (sym e))
second_counts tries row w short p h false e more few = rw (sub-zero tries) (costs_none tries row w short p h e few)

-- in a history with no 60 in a row there are fewer at its begin
row_low : (many i : ℕ) (s : State) (cs : List Call) (row : ℕ) → has_row many i s cs row ≡ false → row < many
row_low many i s [] row e = leb-false many row e
row_low many i s (c ∷ cs) row e = leb-false many row (neither_left (leb many row) _ e)

module _ (i : ℕ) where
  abbrev power_in : State → Power
  power_in s = (module_at i s).power

  -- one call
  module _ (s : State) (c : Call) (out : T (deployed s)) (tries row : ℕ) (h : Counts tries row (power_in s)) where
    abbrev next : State
    next = (called s c).result.state

    by_tick :
        (tick : Bool) → done_tick s c ≡ tick → cost (costly i s c) < tries → row_after i s c row < 60 →
        Counts (tries - cost (costly i s c)) (row_after i s c row) (power_in next)
    by_tick true e more few =
        let w : Bool = wanted_in next i in
        let short : Bool = shorted i (about_of c) in
        let after : power_in next ≡ switched w short (power_in s) = second i s c (holds (done_tick s c) e) out in
        rw (e, after) (second_counts tries row w short (power_in s) h (short && costs w (power_in s)) refl (rw e at more) (rw (e, after) at few))
    by_tick false e more few = rw (e, only_ticks.power i s c e, sub-zero tries) h

  -- a history
  counted :
      (cs : List Call) (s : State) → T (deployed s) → (tries row : ℕ) → Counts tries row (power_in s) → has_row 60 i s cs row ≡ false →
      costly_shorts i s cs < tries → tries_left (power_in (after s cs)) ≡ tries - costly_shorts i s cs
  counted [] s out tries row h low more = counts_tries tries row (power_in s) h ∙ sym (sub-zero tries)
  counted (c ∷ cs) s out tries row h low more =
      let s' : State = (called s c).result.state in
      let row' : ℕ = row_after i s c row in
      let low' : has_row 60 i s' cs row' ≡ false = neither_right (leb 60 row) (has_row 60 i s' cs row') low in
      let dear : ℕ = cost (costly i s c) in
      let h' : Counts (tries - dear) row' (power_in s') = by_tick s c out tries row h (done_tick s c) refl (omega arith) (row_low 60 i s' cs row' low') in
      counted cs s' (stays_deployed s (c ∷ []) out) (tries - dear) row' h' low' (omega arith) ∙ omega arith

-- as it begins it has its tries, and no seconds
begins_counts : (tries : ℕ) (p : Power) → (p ≡ Off tries) ⊎ (p ≡ On tries 0) → Counts tries 0 p
begins_counts tries p h = ⊎_elim (λ e. rw e refl) (λ e. rw e (refl, omega arith)) h

pub fall : TriesFall 60
fall i tries s since t more = counted i since s t.flies tries 0 (begins_counts tries (module_at i s).power t.begins) t.row more

pub fails : FailsWith 60 0
fails i tries s since c t dear last =
    let s' : State = after s since in
    let p : Power = (module_at i s').power in
    let w : Bool = wanted_in (called s' c).result.state i in
    let short : Bool = shorted i (about_of c) in
    let found : T (done_tick s' c && short) = and_left (done_tick s' c && short) (costs w p) dear in
    let is_short : short ≡ true = is_true short (and_right (done_tick s' c) short found) in
    let one : tries_left p ≡ 1 = fall i tries s since t (omega arith) ∙ omega arith in
    second i s' c (and_left (done_tick s' c) short found) (stays_deployed s since t.flies)
    ∙ ap (λ b. switched w b p) is_short ∙ costs_one w p (and_right (done_tick s' c && short) (costs w p) dear) ∙ ap one_try_fewer one
