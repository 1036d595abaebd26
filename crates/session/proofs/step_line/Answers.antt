use Rattle.table.specs.Tables.{declared}
use Rattle.session.specs.Clauses.{session_of}
use Rattle.session.proofs.LineLaws.{steps_line}
use Rattle.session.proofs.step_line.Goals as goal

pub returns : goal.returns
returns c =
    let w = steps_line declared (session_of c.args.s) c.args.line c.requires.report_len (rw c.from.ensures at c.call-made.ensures) in
    record { served_as = w.0; keeps = w.1 }
