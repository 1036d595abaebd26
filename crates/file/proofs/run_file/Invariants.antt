use mathlib.Core.Path.{◌≡◌}
use Prim.Native.Nat.{◌-◌}
use lib.ListN.{length}
use Rattle.file.specs.Tables.{arrays_in}
use Rattle.file.specs.Feeds.{Underway}
use Rattle.file.proofs.FileLaws.{Gathered}
use Rattle.file.proofs.run_file.Given as goal

-- The invariant is `Gathered` of FileLaws: what the parts before `at` printed, and that the file goes on behind that. `y` is what is known after a part, and
-- `t` before it.
abbrev pub invariant-loop-table : goal.invariant-loop-table
invariant-loop-table l =
    Gathered l.file l.initial.out l.run (arrays_in l.table) l.length l.at l.out
    × Underway l.run (arrays_in l.table) l.table.order × (length l.scratch ≡ 4096)

abbrev pub decreases-loop-table : goal.decreases-loop-table
decreases-loop-table l = length l.file - l.at
