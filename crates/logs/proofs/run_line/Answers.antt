-- The turn is taken, and what it hands out is written.
use Rattle.logs.proofs.Checks.{run_refused, run_fits}
use Rattle.logs.proofs.run_line.Goals as goal

pub returns-in-Err-clause-runs_call : goal.returns-in-Err-clause-runs_call
returns-in-Err-clause-runs_call c = run_refused c.in_ok-turn.ensures.fact_2 c.in_ok-turn.ensures.count_value _ c.in-Err.is c.args.lines.now

pub returns-in-Ok-clause-runs_call : goal.returns-in-Ok-clause-runs_call
returns-in-Ok-clause-runs_call c =
    let g = c.in_ok-turn.ensures.fact_2 in
    let h = rw c.in-Ok.is at g.served.handed in
    run_fits g c.in_ok-turn.ensures.count_value c.in-Ok.handed c.in-Ok.is h.few _ _ _ c.write_result-written.ensures.value c.write_result-written.ensures.out_after
