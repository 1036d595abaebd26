-- The lines counted are those of the bytes served so far.
use Rattle.std.proofs.Common.{◌≡◌, ◌+◌, ◌-◌, ◌*◌, ◌≤◌, length}
use Rattle.file.specs.Tables.{arrays_in}
use Rattle.file.specs.Feeds.{Underway}
use Rattle.tickets.proofs.serve_part.Given as goal

abbrev pub invariant-loop-at : goal.invariant-loop-at
invariant-loop-at g l =
    Underway l.run (arrays_in l.table) l.table.order × (length l.out ≡ length l.initial.out) × (l.at ≤ length l.part)
    × (18 * l.run.lines ≡ 18 * l.initial.run.lines + l.at) × (928 ≤ length l.out)

abbrev pub decreases-loop-at : goal.decreases-loop-at
decreases-loop-at g l = length l.part - l.at
