-- What it is for a function's contract to admit one outcome, said of the contract that the toolchain reads from the
-- source: `ended` is the function's signature, `Asked` what its `requires` asks of a caller, `Learnt` what a caller
-- learns from its `ensures`.
-- Assumes nothing.
use Rattle.std.specs.Prelude.{◌≡◌}
use contract.Lifetimes.{Lfts}
use denote.Triple.Entry.{Args, Res}
use denote.Triple.Clauses.{Ended, Lasts, AtExit, at_exit}

-- what a call leaves: its result, and the last value of each `&mut` that it was lent; of any other parameter nothing
abbrev pub Leaves : (ended : Ended) (κs : Lfts ended.signature.lifetimes) → Args ended.signature κs → Type 0
Leaves ended κs a = Res ended.signature κs × Lasts ended κs a

-- whatever a caller hands over, the call takes it and leaves one thing
pub record OneOutcome (ended : Ended)
    (Asked : (κs : Lfts ended.signature.lifetimes) → Args ended.signature κs → Type 0)
    (Learnt :
    (κs : Lfts ended.signature.lifetimes) → Args ended.signature κs → Res ended.signature κs →
    AtExit ended κs → Type 0) : Type 0 where
  -- nothing is asked of the arguments
  pub taken : (κs : Lfts ended.signature.lifetimes) (a : Args ended.signature κs) → Asked κs a
  -- two outcomes that both satisfy the `ensures` are one
  pub one :
      (κs : Lfts ended.signature.lifetimes) (a : Args ended.signature κs) (x y : Leaves ended κs a) →
      Learnt κs a x.0 (at_exit ended κs a x.1) → Learnt κs a y.0 (at_exit ended κs a y.1) → x ≡ y
