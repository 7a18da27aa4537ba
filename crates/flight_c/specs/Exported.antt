-- What it is for a call that C makes to have the contract of another function, as the toolchain reads both from the source.
-- Assumes nothing.
use Rattle.std.specs.Prelude.{◌↔◌}
use contract.Lifetimes.{Lfts}
use denote.Triple.Entry.{Args, Res}
use denote.Triple.Clauses.{Ended, AtExit}

-- what a `requires` asks of a caller
abbrev pub Asks : Ended → Type 1
Asks ended = (κs : Lfts ended.signature.lifetimes) → Args ended.signature κs → Type 0

-- what an `ensures` tells it
abbrev pub Tells : Ended → Type 1
Tells ended =
    (κs : Lfts ended.signature.lifetimes) → Args ended.signature κs → Res ended.signature κs → AtExit ended κs → Type 0

-- two contracts of one signature ask the same and tell the same
pub record Same (ended : Ended) (Asked Asked' : Asks ended) (Learnt Learnt' : Tells ended) : Type 0 where
  pub asked : (κs : Lfts ended.signature.lifetimes) (a : Args ended.signature κs) → Asked κs a ↔ Asked' κs a
  pub told :
      (κs : Lfts ended.signature.lifetimes) (a : Args ended.signature κs) (r : Res ended.signature κs) (s : AtExit ended κs) →
      Learnt κs a r s ↔ Learnt' κs a r s
