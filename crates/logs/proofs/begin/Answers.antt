-- The header is read, then the lines after it, and these are judged.
use mathlib.Core.Path.{◌≡◌, refl, sym, ◌∙◌}
use Rattle.std.specs.Prelude.{Ok}
use Rattle.std.proofs.lemmas.Result.{err_from_is_err_and}
use Rattle.simulation.specs.Calls.{original}
use Rattle.schedule.specs.Lines.{header_read}
use Rattle.schedule.proofs.SessionLaws.{original_stations}
use Rattle.schedule.proofs.Runs.{header_within}
use Rattle.logs.proofs.Files.{header_refuses, lines_told, lines_begun}
use Rattle.logs.proofs.begin.Goals as goal
use Rattle.logs.proofs.begin.Goals.{In_ok-n}

-- an accepted header
said : (x : In_ok-n) → header_read original x.line_at-header.result.now ≡ Ok x.in_ok-n.n
said x = sym x.read_header.ensures ∙ x.in_ok-n.was

pub returns-in_err-n : goal.returns-in_err-n
returns-in_err-n c =
    let p = err_from_is_err_and c.from_residual.result c.from_residual.ensures.1 in
    rw (p.1, p.2) (header_refuses c.args.file.now c.line_at-header.ensures (sym c.read_header.ensures ∙ c.in_err-n.was))

pub returns-in-Some : goal.returns-in-Some
returns-in-Some c =
    lines_told c.args.file.now c.line_at-header.ensures (said (goal.at.returns-in-Some c).In_ok-n) c.from-rest.ensures c.survey_lines.ensures c.in-Some.ensures

pub fresh-requires : goal.fresh-requires
fresh-requires c = original_stations _ _ (said (goal.at.fresh-requires c).In_ok-n)

pub returns : goal.returns
returns c = λ buffer long.
    let s = c.args in
    lines_begun s.file.now c.line_at-header.ensures (said (goal.at.returns c).In_ok-n) c.from-rest.ensures c.survey_lines.ensures c.in_default.ensures refl
    s.list.now s.count s.whole buffer c.fresh.ensures.count_value c.fresh.ensures.value c.fresh.ensures.runnable c.requires
    (header_within s.file.now _ c.line_at-header.ensures) long
