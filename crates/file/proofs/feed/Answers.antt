-- Openings tells what is served of a part by how it starts.
use mathlib.Core.Path.{refl}
use Rattle.file.specs.Tables.{arrays_in}
use Rattle.file.proofs.Openings.{feeds_none, feeds_refused, feeds_lines}
use Rattle.file.proofs.feed.Goals as goal

pub returns-in-Ok-None-clause-feeds : goal.returns-in-Ok-None-clause-feeds
returns-in-Ok-None-clause-feeds c =
    let a = c.args in
    let f = rw c.in-Ok-None.field-0-is at c.in-Ok-None.ensures in
    rw f.0 (feeds_none a.run (arrays_in a.table.now) a.last a.part.now a.out.now f.2)

pub returns-in-Err-clause-feeds : goal.returns-in-Err-clause-feeds
returns-in-Err-clause-feeds c =
    let a = c.args in
    let f = c.in-Err.ensures in
    let told = c.print_refusal-written.ensures in
    rw f.0 (feeds_refused a.run (arrays_in a.table.now) a.last a.part.now a.out.now f.2 f.3
    c.requires.in_bounds c.requires.underway.fresh f.4 c.line_at-header.ensures told.value told.out_after)

pub returns-in-Ok-Some-clause-feeds : goal.returns-in-Ok-Some-clause-feeds
returns-in-Ok-Some-clause-feeds c =
    let f = rw c.in-Ok-Some.field-0-is at c.in-Ok-Some.ensures in
    rw c.fed_by.ensures (feeds_lines f.0 c.args.last c.end_of-end.ensures refl c.report_lines-r.ensures.reports c.requires.in_bounds)
