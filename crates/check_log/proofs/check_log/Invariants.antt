-- The check goes on from part to part. Each that is full shows bytes, of which there are as many as the steps left can write.
use Rattle.unbounded.specs.Tables.{numbers_in}
use Rattle.logs.specs.Clauses.{Checking, work_left}
use Rattle.check_log.proofs.check_log.Given as goal

abbrev pub invariant-loop-k : goal.invariant-loop-k
invariant-loop-k g l = Checking l.check (numbers_in l.table) l.table.order l.file l.list l.lines

abbrev pub decreases-loop-k : goal.decreases-loop-k
decreases-loop-k g l = work_left l.check l.file
