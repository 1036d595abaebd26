use Rattle.columns.proofs.Scans.{Scanned}
use Rattle.columns.proofs.scan_column.Given as goal

abbrev pub invariant-loop-b : goal.invariant-loop-b
invariant-loop-b l = Scanned l.before l.last l.b-index l.v
