use lib.ListN.{length}
use Rattle.columns.proofs.Stores.{Filled}
use Rattle.columns.proofs.write_column.Given as goal

-- The bytes from place i on are written.
abbrev pub invariant-loop-i : goal.invariant-loop-i
invariant-loop-i l = Filled (length l.initial.out) l.v l.out l.i l.rest
