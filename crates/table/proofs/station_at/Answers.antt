use mathlib.Core.Path.{sym, ap, ◌∙◌}
use mathlib.Core.List.{[]}
use Rattle.arrays.specs.Arrays.{cell}
use Rattle.table.specs.Tables.{declared_phase}
use Rattle.table.proofs.Apart.{declared_back}
use Rattle.table.proofs.station_at.Goals as goal

pub returns : goal.returns
returns c =
    let a = c.args in
    λ y. record {
      label = cell a.labels.now 0 a.place [];
      job = cell a.jobs.now 0 a.place 0;
      pending_label = cell a.labels.now 1 a.place [];
      pending_job = cell a.jobs.now 1 a.place 0;
      scan_result = c.entries_of.ensures y;
      phase = (sym (declared_back c.phase_of.result) ∙ ap declared_phase c.phase_of.ensures) y;
      out_of_service = c.is_out.ensures y;
    }
