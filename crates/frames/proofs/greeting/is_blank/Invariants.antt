-- `is_blank` meets its contract: what was found so far, with the bytes that are left, is all that there is.
use Rattle.std.proofs.Common.{◌≡◌, eqb, ◌&&◌, drop}
use Rattle.frames.specs.Greeting.{all_zero}
use Rattle.frames.proofs.greeting.is_blank.Given as goal

abbrev pub invariant-loop-byte : goal.invariant-loop-byte
invariant-loop-byte l = (eqb l.any 0 && all_zero (drop l.byte-index l.bytes)) ≡ all_zero l.bytes
