-- The header is read, then the lines after it, and only then they are run.
use mathlib.Core.Path.{◌≡◌, sym, ◌∙◌}
use Rattle.std.specs.Prelude.{Ok}
use Rattle.std.proofs.lemmas.Result.{err_from_is_err_and}
use Rattle.simulation.specs.Calls.{original}
use Rattle.schedule.specs.Lines.{header_read}
use Rattle.schedule.proofs.SessionLaws.{original_stations}
use Rattle.numbering.proofs.Files.{header_refuses, lines_refuse, lines_number}
use Rattle.numbering.proofs.numbers.Goals as goal
use Rattle.numbering.proofs.numbers.Goals.{In_ok-n}

-- an accepted header
said : (x : In_ok-n) → header_read original x.line_at-header.result.now ≡ Ok x.in_ok-n.n
said x = sym x.read_header.ensures ∙ x.in_ok-n.was

pub returns-in_err-n : goal.returns-in_err-n
returns-in_err-n c =
    let p = err_from_is_err_and c.from_residual.result c.from_residual.ensures.1 in
    rw (p.1, p.2) (header_refuses c.args.file.now c.args.list.now c.line_at-header.ensures (sym c.read_header.ensures ∙ c.in_err-n.was))

pub returns-in-Some : goal.returns-in-Some
returns-in-Some c =
    lines_refuse c.args.file.now c.args.list.now c.line_at-header.ensures (said (goal.at.returns-in-Some c).In_ok-n) c.from-rest.ensures c.survey_lines-survey.ensures c.in-Some.ensures

pub number_lines-requires-clause-le_n : goal.number_lines-requires-clause-le_n
number_lines-requires-clause-le_n c = original_stations _ _ (said (goal.at.number_lines-requires-clause-le_n c).In_ok-n)

pub returns : goal.returns
returns c =
    let e = said (goal.at.returns c).In_ok-n in
    let done = c.number_lines.ensures in
    lines_number c.args.file.now c.args.list.now c.line_at-header.ensures e c.from-rest.ensures c.survey_lines-survey.ensures c.in_default.ensures done.value done.list_after
