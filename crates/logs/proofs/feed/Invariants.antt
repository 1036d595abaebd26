-- The invariant is `Sofar` of Checks: what is told of the log from here on, by the rest of the part, is what was told before it.
use mathlib.Core.Bool.{true}
use Rattle.unbounded.specs.Tables.{numbers_in}
use Rattle.logs.specs.Clauses.{placed_at, Checking, work_left}
use Rattle.logs.proofs.Checks.{Sofar}
use Rattle.logs.proofs.feed.Given as goal

abbrev pub invariant-loop-shown : goal.invariant-loop-shown
invariant-loop-shown l =
    let c = placed_at l.check true l.used l.counted l.at l.written l.shown in
    record {
      sofar : Sofar l.check (numbers_in l.fn.table) l.file l.list l.fn.lines l.part c (numbers_in l.table) l.lines l.read;
      checking : Checking c (numbers_in l.table) l.table.order l.file l.list l.lines;
    }

abbrev pub decreases-loop-shown : goal.decreases-loop-shown
decreases-loop-shown l = work_left (placed_at l.check true l.used l.counted l.at l.written l.shown) l.file
