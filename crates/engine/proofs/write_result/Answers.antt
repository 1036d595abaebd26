use mathlib.Core.Path.{◌≡◌, refl, ap, ◌∙◌}
use native.Mathlib.Omega.{arith}
use lib.ListN.{length, take}
use Rattle.basics.specs.Tests.{tabulate}
use Rattle.columns.proofs.Stores.{length_head}
use Rattle.simulation.specs.Calls.{report_lines}
use Rattle.arrays.specs.Arrays.{entries_in}
use Rattle.engine.proofs.Reports.{result_length, one_line_more, head_first, head_stands, head_covered}
use Rattle.engine.proofs.write_result.Goals as goal

pub loop-p-init : goal.loop-p-init
unfolding report_lines tabulate
loop-p-init c = (head_first _ _ c.args.out.now c.write_head.ensures, refl)

pub loop-p-preserved : goal.loop-p-preserved
loop-p-preserved c =
    let l = c.loop-p in
    let rows = c.args.rows.now in
    let more = one_line_more _ rows _ _ _ _ _ (c.head_of-head.ensures ∙ l.invariant.0) l.invariant.1 c.write_scan_line.ensures in
    (ap (take 11) more ∙ head_stands _ l.p rows _, more)

pub returns-then-k-eq0-clause-out_after : goal.returns-then-k-eq0-clause-out_after
unfolding report_lines tabulate
returns-then-k-eq0-clause-out_after c = let e = c.if-k-eq0.true in rw e refl

pub returns-clause-out_after : goal.returns-clause-out_after
returns-clause-out_after c =
    let l = c.loop-p in
    let start = c.args in
    let e : l.p ≡ start.k = omega arith in
    let lines = report_lines start.line 1 (entries_in start.k start.rows.now) in
    let size = result_length start.line start.k start.rows.now in
    let written = c.write_head in
    rw e at l.invariant.1 ∙ head_covered lines written.new.out start.out.now (ap length written.ensures ∙ length_head _ _) (omega arith)
