use Prim.Native.Nat.{◌≤◌}
use lib.ListN.{take}
use Rattle.engine.specs.Scans.{found}
use Rattle.engine.proofs.Scanned.{Filled}
use Rattle.engine.proofs.scan_result.Given as goal

-- After so many turns the rows have the k entries of a scan of the first stations of the order.
abbrev pub invariant-loop-i : goal.invariant-loop-i
invariant-loop-i l = (l.k ≤ l.i-index) × Filled (take l.n l.order) (found l.jobs l.service) l.i-index l.k l.rows
