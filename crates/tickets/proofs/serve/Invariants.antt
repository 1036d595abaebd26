use Rattle.std.proofs.Common.{◌≡◌, ◌-◌, ◌<◌, length}
use Rattle.file.specs.Tables.{arrays_in}
use Rattle.file.specs.Feeds.{Underway}
use Rattle.tickets.proofs.serve.Given as goal

abbrev pub invariant-loop-next : goal.invariant-loop-next
invariant-loop-next g l =
    Underway l.run (arrays_in l.table) l.table.order × (l.kept < 18)
    × (length l.buf ≡ 73728) × (length l.out ≡ 65536)

abbrev pub decreases-loop-next : goal.decreases-loop-next
decreases-loop-next g l = 1000001 - l.run.lines
