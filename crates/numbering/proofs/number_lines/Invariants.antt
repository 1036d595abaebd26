use Prim.Native.Nat.{◌-◌}
use mathlib.Core.Path.{◌≡◌}
use lib.ListN.{length}
use Rattle.file.specs.Tables.{arrays_in}
use Rattle.file.specs.Clauses.{Runnable}
use Rattle.numbering.proofs.Lines.{Sofar}
use Rattle.numbering.proofs.number_lines.Given as goal

-- The invariant is `Sofar` of Lines: what the lines left make of the numbers so far are the numbers of all lines.
abbrev pub invariant-loop-request : goal.invariant-loop-request
invariant-loop-request l =
    Sofar l.n l.rest l.initial.list (arrays_in l.table) l.numbers l.count l.lines l.at l.list × Runnable (arrays_in l.table) l.table.order × (l.table.count ≡ l.n)

abbrev pub decreases-loop-request : goal.decreases-loop-request
decreases-loop-request l = length l.rest - l.at
