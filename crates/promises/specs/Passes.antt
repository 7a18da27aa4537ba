-- The better battery, pass by pass: of two craft whose passes have the same frames but for higher battery readings on
-- the second, the second is as good or better.
-- Assumes nothing.
use Rattle.std.specs.Prelude.{ℕ, ◌+◌, ◌*◌, ◌≤◌, List, [], ◌∷◌, length, take}
use Rattle.modules.specs.Groups.{is_core}
use Rattle.frames.specs.Kind.{report_bytes}
use Rattle.supervisor.specs.Fresh.{fresh_state}
use Rattle.pass.specs.Pass.{frames_in}
use Rattle.pass.specs.Flight.{Pass, after_passes, singles, flown}
use Rattle.promises.specs.TwoCraft.{Paired, Better, in_reach, shorts_borne}

-- room for every report of a pass, but that so many bytes may be missing
abbrev pub RoomBut : (missing : ℕ) → Pass → Type 0
RoomBut missing p = report_bytes * length (frames_in p.input) ≤ length p.room + missing

-- the passes of the two craft, one by one: their frames are paired as single calls with them are
pub data PairedPasses (missing missing' : ℕ) : List Pass → List Pass → Type 0 where
  no_pass : PairedPasses missing missing' [] []
  next_pass :
      {p q : Pass} {ps qs : List Pass} → RoomBut missing p → RoomBut missing' q →
      Paired in_reach (singles (frames_in p.input)) (singles (frames_in q.input)) →
      PairedPasses missing missing' ps qs → PairedPasses missing missing' (p ∷ ps) (q ∷ qs)

-- from the fresh start: after every pass
abbrev pub PassByPassBut : (missing missing' : ℕ) → Type 0
PassByPassBut missing missing' =
    (ps qs : List Pass) → PairedPasses missing missing' ps qs → (n : ℕ) →
    Better is_core shorts_borne (flown fresh_state (take n ps)) (after_passes fresh_state (take n ps))
    (after_passes fresh_state (take n qs))

-- with room for every report of every pass
abbrev pub PassByPass : Type 0
PassByPass = PassByPassBut 0 0
