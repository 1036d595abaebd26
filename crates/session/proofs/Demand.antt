-- Demand 3 of reading sessions by value: schedule's theorem for the tables of the struct.
use Prim.Native.Nat.{ℕ}
use mathlib.Core.Path.{◌≡◌}
use mathlib.Core.List as Lists
use Rattle.std.specs.Prelude.{Ok}
use Rattle.schedule.specs.Tables.{tables}
use Rattle.schedule.specs.Lines.{header_read}
use Rattle.schedule.specs.Sessions.{header_of}
use Rattle.schedule.specs.Demand.{ServedLine, ServedBy, SessionDemand}
use Rattle.schedule.proofs.SessionTheorem as SessionTheorem
use Rattle.simulation.specs.Calls.{original}
use Rattle.table.specs.Tables.{declared}
use Rattle.table.proofs.Apart.{declared_lawful}
use Rattle.table.specs.declared.Table.{Table}

pub session_demand : (header : Lists.List ℕ) (n : ℕ) → header_read original header ≡ Ok n → (xs : Lists.List (ServedLine Table))
    → ServedBy (tables declared) (header_of (tables declared) header) xs → SessionDemand declared n xs
session_demand = SessionTheorem.session_demand declared declared_lawful
