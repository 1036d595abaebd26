use Prim.Native.Nat.{◌-◌}
use lib.ListN.{length}
use Rattle.std.specs.Prelude.{None}
use Rattle.file.specs.Tables.{arrays_in}
use Rattle.schedule.specs.Sessions.{session}
use Rattle.file.specs.Clauses.{Runnable}
use Rattle.file.proofs.ChunkLaws.{Sofar}
use Rattle.file.proofs.report_lines.Given as goal

-- The invariant is `Sofar` of ChunkLaws: what the lines before `at` left and printed.
abbrev pub invariant-loop-out : goal.invariant-loop-out
invariant-loop-out l =
    Sofar (session l.lines None (arrays_in l.initial.table)) l.chunk l.initial.out (arrays_in l.table) l.count l.written l.at l.out
    × Runnable (arrays_in l.table) l.table.order

abbrev pub decreases-loop-out : goal.decreases-loop-out
decreases-loop-out l =
    length l.chunk - l.at
