use Rattle.step.proofs.StepLaws.{lines_written}
use Rattle.step.proofs.call.Goals as goal

-- The entries that are handed out, as report lines.
pub returns-in-Ok : goal.returns-in-Ok
returns-in-Ok c =
    lines_written c.in-Ok.next _ c.in-Ok.ensures c.rows_of-rows.ensures c.write_result-written.ensures.value c.write_result-written.ensures.out_after
