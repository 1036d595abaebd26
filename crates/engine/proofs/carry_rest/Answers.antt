use Rattle.std.proofs.lemmas.Result.{err_from_is_err_and}
use Rattle.engine.proofs.Carried.{refused, begins_label, snaps_label, snaps_scan, updates, ends_label, ends_scan, leaves_service, returns_to_service}
use native.Mathlib.Omega.{arith}
use Rattle.engine.proofs.carry_rest.Goals as goal

-- Each arm is a move of its own, and Carried has a law for it.
pub overflow_cast-jobs : goal.overflow_cast-jobs
overflow_cast-jobs c = let s = rw c.in_ok-task.was at c.requires in omega (arith, s.task.job_fits c.in-BeginLabel.is)

pub scan_result-requires : goal.scan_result-requires
scan_result-requires c = let s = rw c.in_ok-task.was at c.requires in record {
  n_bound = (s.high, (s.task.listed c.in-SnapScan.is).0);
  by_index = (s.task.listed c.in-SnapScan.is).1;
}

pub returns-in_err-task : goal.returns-in_err-task
returns-in_err-task c =
    let p = err_from_is_err_and c.from_residual.result c.from_residual.ensures.1 in
    rw (c.in_err-task.was, p.1, p.2) (refused (rw c.in_err-task.was at c.requires))

pub returns-in-BeginLabel : goal.returns-in-BeginLabel
returns-in-BeginLabel c = rw c.in_ok-task.was (begins_label (rw c.in_ok-task.was at c.requires) c.in-BeginLabel.is)

pub returns-in-SnapLabel : goal.returns-in-SnapLabel
returns-in-SnapLabel c = rw c.in_ok-task.was (snaps_label (rw c.in_ok-task.was at c.requires) c.in-SnapLabel.is)

pub returns-in-SnapScan : goal.returns-in-SnapScan
returns-in-SnapScan c = rw c.in_ok-task.was (snaps_scan (rw c.in_ok-task.was at c.requires) c.scan_result.ensures c.in-SnapScan.is)

pub returns-in-Update : goal.returns-in-Update
returns-in-Update c = rw c.in_ok-task.was (updates (rw c.in_ok-task.was at c.requires) c.in-Update.is)

pub returns-in-EndLabel : goal.returns-in-EndLabel
returns-in-EndLabel c = rw c.in_ok-task.was (ends_label (rw c.in_ok-task.was at c.requires) c.in-EndLabel.is)

pub returns-in-EndScan : goal.returns-in-EndScan
returns-in-EndScan c = rw c.in_ok-task.was (ends_scan (rw c.in_ok-task.was at c.requires) c.in-EndScan.is)

pub returns-in-LeaveService : goal.returns-in-LeaveService
returns-in-LeaveService c = rw c.in_ok-task.was (leaves_service (rw c.in_ok-task.was at c.requires) c.in-LeaveService.is)

pub returns-in-ReturnToService : goal.returns-in-ReturnToService
returns-in-ReturnToService c = rw c.in_ok-task.was (returns_to_service (rw c.in_ok-task.was at c.requires) c.in-ReturnToService.is)
