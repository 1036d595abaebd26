-- Schedule files on the tables that are lent: demand 3, for every list of bytes whose header is accepted; and what Card 1 leaves as it was, for every list of
-- bytes.
use Rattle.std.specs.Prelude.{Ok}
use Prim.Native.Nat.{ℕ}
use mathlib.Core.Path.{◌≡◌, refl}
use mathlib.Core.List.{List}
use lib.ListN.{take}
use Rattle.arrays.specs.Form.{lent}
use Rattle.arrays.proofs.States.{lent_lawful}
use Rattle.schedule.specs.Lines.{header_read}
use Rattle.schedule.specs.Demand.{FileDemand}
use Rattle.schedule.specs.Before.{ScansAsBefore}
use Rattle.schedule.proofs.FileTheorem.{file_demand}
use Rattle.schedule.proofs.Before.{scans_as_before}
use Rattle.simulation.specs.Calls.{original}

pub demand : (bs : List ℕ) (n : ℕ) → header_read original (take 18 bs) ≡ Ok n → FileDemand lent bs n
demand = file_demand lent lent_lawful

pub scans_before : (bs : List ℕ) → ScansAsBefore lent bs
scans_before = scans_as_before lent lent_lawful refl
