-- The invariant is `Passed` of Parts: a full part stands in the buffer, what is told of the file is what the lines read tell of the rest, and the reader gave it.
use Rattle.std.proofs.Common.{Ok}
use Rattle.intake.specs.Clauses.{lines_left}
use Rattle.intake.proofs.Parts.{Passed}
use Rattle.intake.proofs.read_on.Given as goal

abbrev pub invariant-loop-k : goal.invariant-loop-k
invariant-loop-k g l = Passed (g.R.Read.remaining l.initial.input) (g.R.Read.remaining l.input) l.initial.part l.part (Ok l.lines)

abbrev pub decreases-loop-k : goal.decreases-loop-k
decreases-loop-k g l = lines_left (Ok l.lines)
