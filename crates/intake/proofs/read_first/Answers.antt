-- The header is read, and the lines behind it.
use Rattle.std.proofs.Common.{◌<◌, length, arith, sym, ◌∙◌}
use Rattle.std.proofs.lemmas.Result.{err_from_is_err_and}
use Rattle.intake.proofs.Parts.{first_refused, first_read}
use Rattle.intake.proofs.read_first.Goals as goal
use Rattle.intake.proofs.read_first.Goals.{After-line_at-header}

-- where the header has been found
some : (l : After-line_at-header) → 0 < length l.args.part.now
some l = grind (arith, l.is_empty.ensures)

pub returns-in_err-read_header : goal.returns-in_err-read_header
returns-in_err-read_header c =
    let p = err_from_is_err_and c.from_residual.result c.from_residual.ensures.1 in
    rw (p.1, p.2) (first_refused c.args.part.now (some (goal.at.returns-in_err-read_header c).After-line_at-header) c.line_at-header.ensures
    (sym c.read_header.ensures ∙ c.in_err-read_header.was))

pub returns : goal.returns
returns c =
    first_read c.args.part.now (some (goal.at.returns c).After-line_at-header) c.line_at-header.ensures (sym c.read_header.ensures ∙ c.in_ok-read_header.was)
    c.from.ensures c.read_lines.ensures
