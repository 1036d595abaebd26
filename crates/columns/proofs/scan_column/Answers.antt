use mathlib.Core.Path.{sym, ap, ◌∙◌}
use native.Mathlib.Omega.{arith}
use Rattle.columns.specs.Reading.{column_read}
use Rattle.columns.proofs.Scans.{scan_none, scan_start, scan_bound, scan_more, scan_stop, scan_end}
use Rattle.columns.proofs.scan_column.Goals as goal

pub returns-in_err-last : goal.returns-in_err-last
returns-in_err-last c = c.from_residual.ensures ∙ sym (scan_none _ c.in_err-last.ensures.cases)

pub loop-b-init : goal.loop-b-init
loop-b-init c = scan_start _ _

pub with_front-requires : goal.with_front-requires
with_front-requires c = scan_bound c.loop-b.invariant (omega (arith, c.in_ok-last.ensures.cases.1))

pub returns-in_err-v : goal.returns-in_err-v
returns-in_err-v c =
    c.from_residual-in_err-v.ensures ∙ sym (ap column_read c.in_ok-last.ensures.cases.0 ∙ scan_stop c.loop-b.invariant c.loop-b-test.true (sym c.in_err-v.ensures))

pub loop-b-preserved : goal.loop-b-preserved
loop-b-preserved c = scan_more c.loop-b.invariant c.loop-b-test.true (sym c.in_ok-v.ensures)

pub with_digit-requires : goal.with_digit-requires
with_digit-requires c = scan_bound c.loop-b.invariant (omega (arith, c.in_ok-last.ensures.cases.1))

pub returns : goal.returns
returns c = c.with_digit.ensures ∙ sym (ap column_read c.in_ok-last.ensures.cases.0 ∙ scan_end c.loop-b.invariant (omega arith))
