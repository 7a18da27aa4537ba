-- `turn` is safe: what it keeps lies within the bytes.
use Rattle.std.proofs.Common.{arith, sym, length-take-le}
use Rattle.stream.proofs.FillLaws.{fill_within}
use Rattle.stream.proofs.KeepLaws.{keep_count}
use Rattle.stream.proofs.turn.Goals as goal

pub slice_bounds-write_all-end : goal.slice_bounds-write_all-end
slice_bounds-write_all-end g c = omega (arith, fill_within _ _ _ _ _ c.requires c.fill-filled.ensures)

pub slice_bounds-write_all-end-2 : goal.slice_bounds-write_all-end-2
slice_bounds-write_all-end-2 g c = sym (length-take-le _ _ (omega (arith, fill_within _ _ _ _ _ c.requires c.fill-filled.ensures)))

pub keep-requires : goal.keep-requires
keep-requires g c = ((fill_within _ _ _ _ _ c.requires c.fill-filled.ensures).0, c.requires)

pub read-requires : goal.read-requires
read-requires g c = omega (arith, keep_count _ _ _ c.keep.ensures)

pub returns-in-Full : goal.returns-in-Full
returns-in-Full g c = omega (arith, keep_count _ _ _ c.keep.ensures)
