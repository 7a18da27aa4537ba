-- `flight::saving::put_modules` meets its contract: the modules left, put into the image as it is, make what all of them make of it at entry.
use Prim.Native.Nat.{◌+◌, ◌*◌}
use mathlib.Core.Path.{◌≡◌}
use lib.ListN.{length, drop}
use lib.Seq.{sets}
use Rattle.flight.specs.Saving.{image_bytes, modules_place, modules_bytes}
use Rattle.flight.proofs.saving.put_modules.Given as goal

abbrev pub invariant-loop-i : goal.invariant-loop-i
invariant-loop-i l =
    record {
      size : length l.image ≡ image_bytes;
      rest : sets l.image (modules_place + 2 * l.i) (modules_bytes (drop l.i l.modules)) ≡ sets l.initial.image modules_place (modules_bytes l.modules);
    }
