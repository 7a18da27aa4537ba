-- `books::summary::summary` meets its contract: the first m shares are made.
use Rattle.std.proofs.Common.{◌≡◌}
use Rattle.basics.proofs.EachLaws.{worked}
use Rattle.books.specs.Summary.{share_in, no_shares}
use Rattle.books.proofs.summary.summary.Given as goal

abbrev pub invariant-loop-m : goal.invariant-loop-m
invariant-loop-m l = l.shares ≡ worked (λ k none. share_in l.books k) l.m no_shares
