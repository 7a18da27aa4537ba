-- `print_log` is safe: the bytes kept lie within.
use Rattle.std.proofs.Common.{◌≤◌, length}
use Rattle.stream.proofs.print_log.Given as goal

abbrev pub invariant-loop : goal.invariant-loop
invariant-loop g l = l.stream.unused ≤ length l.bytes
